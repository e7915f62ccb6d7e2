-- What a reading that has received bytes tells is what a parse of these bytes answers.
use Rattle.std.proofs.Common.{◌≡◌, ◌∙◌, ap, ap₂, refl, sym, ℕ, zero, suc, arith, ◌+◌, ◌-◌, ◌≤◌, Bool, false, List, [], ◌∷◌, ◌++◌, length, Option, Some, inl, inr}
use Rattle.std.specs.Prelude.{codes, if◌then◌else◌, Result, Ok, Err, OnOk}
use Rattle.std.proofs.lemmas.List.{length-append}
use Rattle.jiter.specs.Caller.{answer, answer_in, done, fault, JsonError, JsonValue}
use Rattle.jiter.specs.Caller.{kind_of, owned_tree, Parses, PartialMode, Reading, reading_as, Tree, view}
use Rattle.jiter_incremental.specs.Caller.{HasReceived, Received}
use Rattle.jiter_print.specs.Layout.{deeper, items_laid_out, joined, laid_out, Layout, line_break, members_laid_out, pretty}
use Rattle.jiter_print.specs.Layout.{pretty_of, space}
use Rattle.jiter_print.specs.Print.{print_text}
use Rattle.jiter_steps.specs.Tree.{null, boolean, int, big, float, string, array, object, Items, no_items, item}
use Rattle.jiter_steps.specs.Tree.{Members, no_members, member}
use Rattle.jiter_value.specs.Owned.{owned_items, owned_members}
use Rattle.json_screen.specs.Arrived.{HasArrived, ReadsAs}
use Rattle.json_screen.specs.Parts.{parts_of}
use Rattle.json_screen.specs.Report.{document_error, error_of, has_mark, next_document, trailing_error}
use Rattle.json_screen.specs.Rows.{Filled, put_bytes, put_marked, put_reading, put_value}
use Rattle.json_screen.specs.declared.input.Input.{Input}
use Rattle.json_screen.specs.declared.input.Options.{Options}
use Rattle.json_screen.proofs.Split.{whole-is}

-- The text of a value is the same in each layout wherever its texts lie.
mutual
  laid-owned : (l : Layout) (v : Tree) → laid_out l (owned_tree v) ≡ laid_out l v
  laid-owned l null = refl
  laid-owned l (boolean b) = refl
  laid-owned l (int z) = refl
  laid-owned l (big s) = refl
  laid-owned l (float s) = refl
  laid-owned l (string s) = refl
  laid-owned l (array is) = ap (λ ps. 91 ∷ joined l ps ++ 93 ∷ []) (items-laid (deeper l) is)
  laid-owned l (object ms) = ap (λ ps. 123 ∷ joined l ps ++ 125 ∷ []) (members-laid (deeper l) ms)

  items-laid : (l : Layout) (is : Items) → items_laid_out l (owned_items is) ≡ items_laid_out l is
  items-laid l no_items = refl
  items-laid l (item v is) = ap₂ (λ p ps. (line_break l ++ p) ∷ ps) (laid-owned l v) (items-laid l is)

  members-laid : (l : Layout) (ms : Members) → members_laid_out l (owned_members ms) ≡ members_laid_out l ms
  members-laid l no_members = refl
  members-laid l (member k v ms) =
      ap₂ (λ p ps. (line_break l ++ (print_text k.bytes ++ 58 ∷ (space l ++ p))) ∷ ps) (laid-owned l v) (members-laid l ms)

-- a value that is answered with partial reading off has no error: one after it is left
no-error : (begin : ℕ) (after : Option (ℕ × List ℕ)) (names : Bool) (t : List ℕ) (v : JsonValue)
    → Parses owned_tree ⊥ names PartialMode.Off t (Ok v) → after ≡ document_error begin (answer names t) after
no-error begin after names t v h = by (answer names t) h.answer.1 where
  by : (x : Reading Tree) → reading_as owned_tree x ≡ done (view v) h.answer.0 → after ≡ document_error begin x after
  by (done w e) same = refl
  by (fault k i stop) same = absurd (cc)

-- Where the reading tells a value at the end, only what follows is an error.
pub none-told : (options : Options) (d : Received) (t : List ℕ) → ReadsAs options d t → (v : JsonValue)
    → ((u : List ℕ) → HasReceived d u → Parses owned_tree ⊥ d.settings.allow_inf_nan PartialMode.Off u (Ok v))
    → (begin : ℕ) (after : Option (ℕ × List ℕ)) → after ≡ document_error begin (answer options.inf_nan t) after
none-told options d t h v told begin after = rw (← h.names) (no-error begin after _ t v (told t h.received))

-- The same of the input, whose parts are no longer than all of it.
module _ (options : Options) (input : Input) (t : List ℕ) (h : HasArrived options input t) where
  sizes : length t ≡ (length (parts_of t).before + length (parts_of t).inside) + length input.after.items
  sizes =
      let p = parts_of t in
      let all : length ((p.before ++ p.inside) ++ p.after) ≡ length t = ap length (whole-is t) in
      let rest : length input.after.items ≡ length p.after = ap (λ q. length q.after) h.split in
      omega (arith, all, rest, length-append (p.before ++ p.inside) p.after, length-append p.before p.inside)

  pub after-fits : length input.after.items ≤ length t
  after-fits = omega (arith, sizes)

  pub after-told : has_mark t ≡ false → (v : JsonValue) → ((u : List ℕ) → HasReceived input.document u
      → Parses owned_tree ⊥ input.document.settings.allow_inf_nan PartialMode.Off u (Ok v))
      → trailing_error (length t - length input.after.items) (next_document 0 input.after.items) ≡ error_of options.inf_nan t
  after-told unmarked v told =
      let p = parts_of t in
      let begin = length p.before in
      let after = trailing_error (begin + length p.inside) (next_document 0 p.after) in
      ap₂ trailing_error (omega (arith, sizes)) (ap (λ q. next_document 0 q.after) h.split)
      ∙ none-told options input.document p.inside h.read v told begin after
      ∙ sym (ap (λ b. if b then Some (0, codes "byte order mark") else document_error begin (answer options.inf_nan p.inside) after)
      unmarked)

module _ (options : Options) (d : Received) (t : List ℕ) (h : ReadsAs options d t) (width depth : ℕ) (r : Filled) where
  -- The rows of a value that the reading tells.
  pub rows-told : (v : JsonValue)
      → ((u : List ℕ) → HasReceived d u → Parses owned_tree ⊥ d.settings.allow_inf_nan d.settings.mode u (Ok v))
      → put_value width depth r (pretty_of 2 (view v)) ≡ put_reading width depth r t (answer_in options.inf_nan options.mode t)
  rows-told v told = rw (← h.names) (rw (← h.mode) (by (answer_in _ _ t) (told t h.received).answer.1)) where
    by : (x : Reading Tree) → reading_as owned_tree x ≡ done (view v) (told t h.received).answer.0
        → put_value width depth r (pretty_of 2 (view v)) ≡ put_reading width depth r t x
    by (done w e) same =
        let made : owned_tree w ≡ view v = cc in
        ap (put_value width depth r) (ap (pretty_of 2) (sym made) ∙ laid-owned (pretty 2 0) w)
    by (fault k i stop) same = absurd (cc)

  -- the same without and with a mark
  module _ (v : JsonValue)
      (told : (u : List ℕ) → HasReceived d u → Parses owned_tree ⊥ d.settings.allow_inf_nan d.settings.mode u (Ok v))
      (text : List ℕ) (is : text ≡ pretty_of 2 (view v)) where
    shown-value : put_value width depth r text ≡ put_reading width depth r t (answer_in options.inf_nan options.mode t)
    shown-value = ap (put_value width depth r) is ∙ rows-told v told

    pub whole-told : depth ≡ 0
        → put_bytes width r text ≡ put_reading width depth r t (answer_in options.inf_nan options.mode t)
    whole-told none = by depth none ∙ shown-value where
      by : (n : ℕ) → n ≡ 0 → put_bytes width r text ≡ put_value width n r text
      by zero e = refl
      by (suc n) e = absurd (omega (arith, e))

    pub marked-told : (depth ≡ 0 → ⊥)
        → put_marked depth width r text ≡ put_reading width depth r t (answer_in options.inf_nan options.mode t)
    marked-told some = by depth some ∙ shown-value where
      by : (n : ℕ) → (n ≡ 0 → ⊥) → put_marked n width r text ≡ put_value width n r text
      by zero e = absurd (e refl)
      by (suc n) e = refl

  -- What has an error is shown as it is.
  pub rows-untold : (e : JsonError)
      → ((u : List ℕ) → HasReceived d u → Parses owned_tree ⊥ d.settings.allow_inf_nan d.settings.mode u (Err e))
      → put_bytes width r t ≡ put_reading width depth r t (answer_in options.inf_nan options.mode t)
  rows-untold e told = rw (← h.names) (rw (← h.mode) (elim (told t h.received).answer [
    | inl memory ↦ absurd ((told t h.received).memory memory)
    | inr is ↦ by (answer_in _ _ t) is.0 is.1
  ])) where
    by : (x : Reading Tree) (stop : ℕ) → reading_as owned_tree x ≡ fault (kind_of e.error_type) e.index stop
        → put_bytes width r t ≡ put_reading width depth r t x
    by (done w end) stop same = absurd (cc)
    by (fault k i at) stop same = refl

pub if-ok : {T E P Q : Type 0} (r : Result T E) → OnOk r P → (P → Q) → OnOk r Q
if-ok (Ok x) p f = f p
if-ok (Err e) p f = tt
