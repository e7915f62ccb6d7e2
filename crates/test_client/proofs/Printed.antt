-- What is printed of a value that owns its texts is a document of what was read.
use Rattle.std.proofs.Common.{◌≡◌, sym, subst, ℕ, Bool, false, List}
use Rattle.jiter.specs.Caller.{answer_in, done, HoldSame, owned_tree, PartialMode, reading_as, Tree}
use Rattle.jiter_print.specs.Print.{print_of, with_line_feed}
use Rattle.jiter_print.specs.Printed.{IsLineOf}
use Rattle.jiter_print.proofs.PrintLaw.{line-same, owned-read}

-- By what `print` promises of a value that holds the same as what was read.
pub owned-again : (t : List ℕ) (v : Tree) (line : List ℕ) (end : ℕ)
    → reading_as owned_tree (answer_in false PartialMode.Off t) ≡ done v end → line ≡ print_of v
    → ((names : Bool) (mode : PartialMode) (bytes : List ℕ) (read : Tree) (e : ℕ)
    → answer_in names mode bytes ≡ done read e → HoldSame read v → IsLineOf names v (with_line_feed (print_of v)))
    → (read : Tree) × (e : ℕ) × (answer_in false PartialMode.Off t ≡ done read e) × IsLineOf false read (with_line_feed line)
owned-again t v line end is text again =
    let r = owned-read false PartialMode.Off t v end is in
    let printed = again false PartialMode.Off t r.0 end r.1 r.2 in
    let same = line-same false v r.0 _ (sym r.2) printed in
    (r.0, end, r.1, subst (λ w. IsLineOf false r.0 (with_line_feed w)) (sym text) same)
