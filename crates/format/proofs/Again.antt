-- What is written of a part of a document is a document of that part.
use Rattle.std.proofs.Common.{ℕ, zero, suc, ◌+◌, Bool, false, List, [], ◌∷◌, sym, subst}
use Rattle.std.specs.Prelude.{IfSome, None, Option, Some, if◌then◌else◌, option_and_then}
use Rattle.std.specs.Fmt.{decimal}
use Rattle.std.specs.List.{slice_split}
use Rattle.std.specs.Str.{bytes_eq}
use Rattle.jiter.specs.Caller.{IsDocument, Node, nesting_limit, pointed_by, value_of}
use Rattle.jiter_scan.specs.declared.partial_mode.PartialMode.TheVariants.{Off}
use Rattle.jiter_steps.specs.Tree as tree
use Rattle.jiter_steps.specs.Tree.{Text, Tree, items_of, members_of}
use Rattle.jiter_steps.proofs.Cut.CutLaw.{answer_in-of}
use Rattle.jiter_steps.proofs.Reading.Bounds.{either}
use Rattle.jiter_value.specs.Access.{last_such}
use Rattle.jiter_value.specs.Pointer.{is_slash, item_spelled, part_spelled, pointed}
use Rattle.jiter_print.specs.Layout.{compact, pretty}
use Rattle.jiter_print.specs.Print.{with_line_feed}
use Rattle.jiter_print.specs.Printed.{IsLineOf}
use Rattle.jiter_print.proofs.GivenValues.{Both, Each, Gives}
use Rattle.jiter_print.proofs.Laying.{compact-is}
use Rattle.jiter_print.proofs.Printable.{Fits, FitsInside, FitsWith, answer_in-printable}
use Rattle.jiter_print.proofs.PrintLaw.{printed-again}
use Rattle.format.specs.Document.{IsTextAgain}
use Rattle.format.specs.declared.document.Style.{Style}
use Rattle.format.specs.declared.document.Style.TheVariants as style

-- ---- a value with more levels left
each-map : {A : Type 0} (P Q : A → Type 0) → ((a : A) → P a → Q a) → (xs : List A) → Each P xs → Each Q xs
each-map P Q more [] h = tt
each-map P Q more (x ∷ xs) h = (more x h.0, each-map P Q more xs h.1)

fits-map : (P Q : Tree → Type 0) → ((w : Tree) → P w → Q w) → (v : Tree) → FitsWith false P v → FitsWith false Q v
fits-map P Q more tree.null h = tt
fits-map P Q more (tree.boolean b) h = tt
fits-map P Q more (tree.int z) h = h
fits-map P Q more (tree.big s) h = h
fits-map P Q more (tree.float s) h = h
fits-map P Q more (tree.string s) h = h
fits-map P Q more (tree.array is) h = (h.0, h.1, each-map P Q more h.0 h.2)
fits-map P Q more (tree.object ms) h = (h.0, h.1, each-map _ _ (λ m is. (is.0, more m.1 is.1)) h.0 h.2)

more-levels : (levels : ℕ) (v : Tree) → FitsInside false levels v → FitsInside false (suc levels) v
more-levels zero v h = absurd h
more-levels (suc levels) v h = fits-map _ _ (more-levels levels) v h

-- ---- the part that a pointer leads to
module _ (P : Tree → Type 0) where
  item-fits : (token : List ℕ) (i : ℕ) (vs : List Tree) → Each P vs → IfSome (item_spelled token i (items_of vs)) P
  item-fits token i [] all = tt
  item-fits token i (v ∷ vs) all =
      either (λ o. IfSome o P) (bytes_eq (decimal i) token) (Some v) (item_spelled token (i + 1) (items_of vs)) all.0
      (item-fits token (i + 1) vs all.1)

  member-fits : (IsKey : Text → Type 0) (test : List ℕ → Bool) (found : Option Tree) → IfSome found P
      → (ms : List (Text × Tree)) → Each (Both IsKey P) ms → IfSome (last_such test found (members_of ms)) P
  member-fits IsKey test found h [] all = h
  member-fits IsKey test found h (m ∷ ms) all =
      member-fits IsKey test (if test m.0.bytes then Some m.1 else found)
      (either (λ o. IfSome o P) (test m.0.bytes) (Some m.1) found all.0.1 h) ms all.1

  part-fits : (token : List ℕ) (v : Tree) → FitsWith false P v → IfSome (part_spelled token v) P
  part-fits token tree.null h = tt
  part-fits token (tree.boolean b) h = tt
  part-fits token (tree.int z) h = tt
  part-fits token (tree.big s) h = tt
  part-fits token (tree.float s) h = tt
  part-fits token (tree.string s) h = tt
  part-fits token (tree.array is) h =
      subst (λ js. IfSome (item_spelled token 0 js) P) (sym h.1) (item-fits token 0 h.0 h.2)
  part-fits token (tree.object ms) h =
      subst (λ ns. IfSome (part_spelled token (tree.object ns)) P) (sym h.1) (member-fits _ _ None tt h.0 h.2)

abbrev IsFit : Tree → Type 0
IsFit v = Fits false nesting_limit v

-- a part of what is inside
then-fits : (more : Tree → Option Tree) → ((w : Tree) → IsFit w → IfSome (more w) IsFit) → (o : Option Tree)
    → IfSome o (FitsInside false nesting_limit) → IfSome (option_and_then more o) IsFit
then-fits more each None h = tt
then-fits more each (Some w) h = each w (more-levels nesting_limit w h)

pointed-fits : (tokens : List (List ℕ)) (v : Tree) → IsFit v → IfSome (pointed tokens v) IsFit
pointed-fits [] v h = h
pointed-fits (token ∷ tokens) v h =
    then-fits (pointed tokens) (pointed-fits tokens) (part_spelled token v) (part-fits _ token v h)

pointed_by-fits : (path : List ℕ) (v : Tree) → IsFit v → IfSome (pointed_by path v) IsFit
pointed_by-fits [] v h = h
pointed_by-fits (c ∷ cs) v h =
    either (λ o. IfSome o IsFit) (is_slash c) (pointed (slice_split is_slash cs) v) None (pointed-fits _ v h) tt

-- ---- and its text
text-again : (s : Style) (v : Tree) → IsFit v → IsTextAgain s v
text-again style.Pretty v h = printed-again (pretty 2 0) false v h
text-again style.Compact v h =
    subst (λ text. IsLineOf false v (with_line_feed text)) (compact-is v) (printed-again compact false v h)
text-again style.Silent v h = tt

pub part_again : (s : Style) (path t : List ℕ) (n : Node) → IsDocument false t n
    → IfSome (pointed_by path (value_of t n)) (IsTextAgain s)
part_again s path t n d = by (pointed_by path (value_of t n)) (pointed_by-fits path (value_of t n) fits) where
  fits : IsFit (value_of t n)
  fits = subst (Gives IsFit) (answer_in-of false t Off n d) (answer_in-printable false Off t)

  by : (o : Option Tree) → IfSome o IsFit → IfSome o (IsTextAgain s)
  by None h = tt
  by (Some v) h = text-again s v h
