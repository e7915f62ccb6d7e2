-- The line that a reading which has received bytes tells is that of what a parse of these bytes answers.
use Rattle.std.proofs.Common.{◌≡◌, ◌∙◌, ap, ap₂, refl, sym, ℕ, Bool, List, [], ◌∷◌, ◌++◌, Some}
use Rattle.std.specs.Prelude.{Ok}
use Rattle.std.specs.List.{join_with_byte}
use Rattle.jiter.specs.Caller.{answer_in, done, fault, JsonValue, owned_tree, Parses, PartialMode, Reading, reading_as, Tree, view}
use Rattle.jiter_incremental.specs.Caller.{HasReceived, Received}
use Rattle.jiter_print.specs.Print.{item_prints, member_prints, print_of, print_text, with_line_feed}
use Rattle.jiter_steps.specs.Tree.{null, boolean, int, big, float, string, array, object, Items, no_items, item}
use Rattle.jiter_steps.specs.Tree.{Members, no_members, member}
use Rattle.jiter_value.specs.Owned.{owned_items, owned_members}
use Rattle.json_screen.specs.Arrived.{ReadsAs}
use Rattle.json_screen.specs.declared.input.Options.{Options}
use Rattle.viewer.specs.Shown.{value_line}

-- The compact text of a value is the same wherever its texts lie.
mutual
  print-owned : (v : Tree) → print_of (owned_tree v) ≡ print_of v
  print-owned null = refl
  print-owned (boolean b) = refl
  print-owned (int z) = refl
  print-owned (big s) = refl
  print-owned (float s) = refl
  print-owned (string s) = refl
  print-owned (array is) = ap (λ l. 91 ∷ join_with_byte 44 l ++ 93 ∷ []) (items-owned is)
  print-owned (object ms) = ap (λ l. 123 ∷ join_with_byte 44 l ++ 125 ∷ []) (members-owned ms)

  items-owned : (is : Items) → item_prints (owned_items is) ≡ item_prints is
  items-owned no_items = refl
  items-owned (item v is) = ap₂ (λ p l. p ∷ l) (print-owned v) (items-owned is)

  members-owned : (ms : Members) → member_prints (owned_members ms) ≡ member_prints ms
  members-owned no_members = refl
  members-owned (member k v ms) =
      ap₂ (λ p l. (print_text k.bytes ++ 58 ∷ p) ∷ l) (print-owned v) (members-owned ms)

-- the line of a value that is answered
value-told : (names : Bool) (mode : PartialMode) (t : List ℕ) (v : JsonValue) → Parses owned_tree ⊥ names mode t (Ok v)
    → value_line (answer_in names mode t) ≡ Some (with_line_feed (print_of (view v)))
value-told names mode t v h = by (answer_in names mode t) h.answer.1 where
  by : (x : Reading Tree) → reading_as owned_tree x ≡ done (view v) h.answer.0
      → value_line x ≡ Some (with_line_feed (print_of (view v)))
  by (done w e) same =
      let made : owned_tree w ≡ view v = cc in
      ap (λ p. Some (with_line_feed p)) (sym (print-owned w) ∙ ap print_of made)
  by (fault k i stop) same = absurd (cc)

-- The line of a value that the reading tells: of the bytes that have arrived, read as the options ask.
pub line-told : (options : Options) (d : Received) (t : List ℕ) → ReadsAs options d t → (v : JsonValue)
    → ((u : List ℕ) → HasReceived d u → Parses owned_tree ⊥ d.settings.allow_inf_nan d.settings.mode u (Ok v))
    → (line : List ℕ) → line ≡ with_line_feed (print_of (view v))
    → value_line (answer_in options.inf_nan options.mode t) ≡ Some line
line-told options d t h v told line is =
    rw (← h.names) (rw (← h.mode) (value-told _ _ t v (told t h.received) ∙ ap Some (sym is)))
