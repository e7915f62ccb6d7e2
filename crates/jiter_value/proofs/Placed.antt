-- Plain scalars, read and put where they belong.
use Rattle.jiter_value.proofs.Words.{◌≡◌, ℕ, ◌+◌, ◌<◌, ◌≤◌, Bool, List, [], ◌∷◌, ◌++◌, length, Vec, refl, sym, ap, ◌∙◌}
use Rattle.jiter_value.proofs.Words.{arith, reverse, slice_index, Number, number_at, Kind, failed, taken, seen_as}
use Rattle.jiter_value.proofs.Words.{value_form, start_of, literal_at, literal_tree, done, fault, scalar_at, value_at}
use Rattle.jiter_value.proofs.Words.{string_at, whole, text_form, Text, Tree, string, Literal, Start, tree_as, TextPolicy}
use Rattle.jiter_value.proofs.Words.{rules_as, size, value_size, after_size, Member, after, Stands, StandsAtKey, IsFree}
use Rattle.jiter_value.proofs.Words.{view, Settings, Slot, Stacks, JsonValue, Global, CowStr, object_colon, text_view}
use Rattle.jiter_scan.specs.Kind.{expected_value}
use Rattle.jiter_scan.specs.PartialMode.{allows_trailing_strings}
use Rattle.jiter_steps.specs.Node.{number_tree}
use Rattle.jiter_steps.specs.Read.{value_with, inside_at}
use Rattle.jiter_steps.specs.declared.parse.Start.TheVariants as start
use Rattle.jiter_value.specs.Stacks.{resume_with}
use Rattle.jiter_value.specs.Turns.{IsPutAt, IsKeyAt}
use Rattle.jiter_value.proofs.StackTurns.{value-read, key-opens, key-above}
use Rattle.jiter_value.proofs.Sizes.{key-size}

module _ (policy : TextPolicy) (p : Settings) (t : List ℕ) (i e levels : ℕ) where
  begins : (s : Start) → start_of (slice_index t i) ≡ s
      → value_at (rules_as policy p) t levels i ≡ value_with (rules_as policy p) (inside_at (rules_as policy p) t levels) t
      i s
  begins s h = ap (value_with (rules_as policy p) (inside_at (rules_as policy p) t levels) t i) h

  pub text-taken : (s : Text) → start_of (slice_index t i) ≡ start.String
      → string_at (value_form p.mode) t i ≡ taken s e
      → value_at (rules_as policy p) t levels i ≡ done (string (policy.text s)) e
  text-taken s h is =
      begins start.String h ∙ ap (λ x. scalar_at i (seen_as (λ s e. string (policy.text s)) x)) is

  pub text-failed : (k : Kind) → start_of (slice_index t i) ≡ start.String
      → string_at (value_form p.mode) t i ≡ failed k e → value_at (rules_as policy p) t levels i ≡ fault k e i
  text-failed k h is = begins start.String h ∙ ap (λ x. scalar_at i (seen_as (λ s e. string (policy.text s)) x)) is

  pub text-read : (s : Text) → start_of (slice_index t i) ≡ start.String
      → ((keep : Bool) → string_at (text_form keep) t i ≡ taken s e)
      → value_at (rules_as policy p) t levels i ≡ done (string (policy.text s)) e
  text-read s h is = text-taken s h (is (allows_trailing_strings p.mode))

  pub number-read : (n : Number) → start_of (slice_index t i) ≡ start.Number
      → number_at p.allow_inf_nan t i ≡ taken n e
      → value_at (rules_as policy p) t levels i ≡ done (tree_as policy.text (number_tree n)) e
  number-read n h is =
      begins start.Number h ∙ ap (λ x. scalar_at i (seen_as (λ n e. tree_as policy.text (number_tree n)) x)) is

  pub number-failed : (k : Kind) → start_of (slice_index t i) ≡ start.Number
      → number_at p.allow_inf_nan t i ≡ failed k e → value_at (rules_as policy p) t levels i ≡ fault k e i
  number-failed k h is =
      begins start.Number h ∙ ap (λ x. scalar_at i (seen_as (λ n e. tree_as policy.text (number_tree n)) x)) is

  pub literal-read : (l : Literal) → start_of (slice_index t i) ≡ start.Literal l → literal_at t l i ≡ taken tt e
      → value_at (rules_as policy p) t levels i ≡ done (literal_tree l) e
  literal-read l h is = begins (start.Literal l) h ∙ ap (λ x. scalar_at i (seen_as (λ u e. literal_tree l) x)) is

  pub literal-failed : (l : Literal) (k : Kind) → start_of (slice_index t i) ≡ start.Literal l
      → literal_at t l i ≡ failed k e → value_at (rules_as policy p) t levels i ≡ fault k e i
  literal-failed l k h is = begins (start.Literal l) h ∙ ap (λ x. scalar_at i (seen_as (λ u e. literal_tree l) x)) is

  pub nothing-read : start_of (slice_index t i) ≡ start.Nothing
      → value_at (rules_as policy p) t levels i ≡ fault expected_value i i
  nothing-read h = begins start.Nothing h

-- a scalar that was read so, and put so
module _ {policy : TextPolicy} {t : List ℕ} {old new : Stacks} {a : Slot} {i e : ℕ} (v : JsonValue) (x : Tree) where
  pub put-at : view v ≡ x → Stands old a → length old.nest.items ≤ 200
      → ((policy : TextPolicy) (p : Settings) (u : List ℕ) (j : ℕ)
      → resume_with policy p u old a (done (view v) j) ≡ after policy p u new a j)
      → Stands new a → new.nest ≡ old.nest → after_size new a ≡ value_size old a + size (view v) → size x ≡ 1
      → i < e → e ≤ length t → ((p : Settings) (levels : ℕ) → value_at (rules_as policy p) t levels i ≡ done x e)
      → IsPutAt policy t old i a new e
  put-at seen b few put stands nest held one ahead within read =
      let counts : size (view v) ≡ 1 = ap size seen ∙ one in
      record {
        value = λ p.
            value-read policy p t old a b few i (done x e) (read p)
            ∙ ap (λ y. resume_with policy p t old a (done y e)) (sym seen) ∙ put policy p t e;
        stands = stands;
        nest = nest;
        held = omega (arith, held, counts);
        ahead = ahead;
        within = within;
      }

-- a key that was read so, kept so and put so
pub key-at : (policy : TextPolicy) (t : List ℕ) (s : Stacks) (ms : Vec Member Global) (i e j : ℕ) (k : Text)
    (kept : CowStr Global) (v : JsonValue) → StandsAtKey s → IsFree policy t s i → i < length t
    → scalar_at i (string_at whole t i) ≡ done k e
    → text_view kept ≡ policy.text k → object_colon t e ≡ taken tt j → ms.items ≡ s.members.items ++ (kept, v) ∷ []
    → i < j → j < length t → IsKeyAt policy t s i (record
    { items = s.items; members = ms; nest = s.nest; root = s.root; error = s.error; reused = s.reused }) j
key-at policy t s ms i e j k kept v b free inside read is colon pushed ahead within =
    let os = reverse s.nest.items in
    let es = s.items.items in
    record {
      value = λ p. rw pushed (key-opens policy p t os es s.members.items i k kept v e j b free inside read is colon);
      stands = rw pushed (key-above os (length es) s.members.items (kept, v) b);
      nest = refl;
      held = rw pushed (key-size os es s.members.items (kept, v) b);
      ahead = ahead;
      within = within;
    }
