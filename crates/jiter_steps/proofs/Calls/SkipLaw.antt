-- The skip law: a skip ends where reading the value ends, and meets its error, except that of UTF-8.
use Rattle.jiter_steps.proofs.Words.{◌≡◌, ◌≢◌, ℕ, Bool, List, refl, sym, ap, ◌∙◌, false≢true, Kind, invalid_code_point}
use Rattle.jiter_steps.proofs.Words.{Number, Scanned, taken, failed, Span, number_at, seen_as, only_ends, whole_trees}
use Rattle.jiter_steps.proofs.Words.{read_at, skip_at, literal_at, nesting_limit, Reading, done, fault, whole, raw}
use Rattle.jiter_steps.proofs.Words.{string_at, Text, Tree}
use Rattle.jiter_steps.proofs.Reading.Fused.{ScansTo, MapsTo, Leads, value_at-told}
use Rattle.jiter_steps.proofs.Grammar.StringLaws.{raw-whole, raw-whole-fault}

-- y ends where x ends, and has its error unless that is one of UTF-8
abbrev pub EndsAlike : {A B : Type 0} → Reading A → Reading B → Type 0
EndsAlike {A = A} {B = B} (done a e) y = (b : B) × (y ≡ done b e)
EndsAlike (fault k i stop) y = k ≢ invalid_code_point → y ≡ fault k i stop

-- every other error is told
abbrev Told : Kind → Type 0
Told k = k ≢ invalid_code_point

abbrev seen_end : {A : Type 0} → A → Unit {0}
seen_end a = tt

-- what is read, as what is built of it
seen-alike : {A B C : Type 0} (f : A → ℕ → B) (x : Scanned A) (y : Scanned C) (h : B → C) (g : A → C)
    → ((a : A) (e : ℕ) → h (f a e) ≡ g a) → ScansTo Told g x y → ScansTo Told h (seen_as f x) y
seen-alike f (taken a e) y h g same all told = ap (λ c. taken c e) (same a e) ∙ all told
seen-alike f (failed k j) y h g same all told = all told

number-alike : (x : Scanned Number) → ScansTo Told seen_end x (seen_as (λ n e. tt {0}) x)
number-alike (taken n e) told = refl
number-alike (failed k j) told = refl

literal-alike : (x : Span) → ScansTo Told seen_end x x
literal-alike (taken u e) told = refl
literal-alike (failed k j) told = refl

module _ (names : Bool) (t : List ℕ) where
  -- a string, and the bytes between its quotes
  strings-alike : (i : ℕ) (x : Scanned Text) → string_at whole t i ≡ x
      → ScansTo Told seen_end x (seen_as (λ s e. tt {0}) (string_at raw t i))
  strings-alike i (taken s e) h told = sym (ap (seen_as (λ s e. tt {0})) (raw-whole t i e s h))
  strings-alike i (failed k j) h told = sym (ap (seen_as (λ s e. tt {0})) (raw-whole-fault t i k j told h))

  only_ends-lead : Leads Told (whole_trees names) (only_ends names) seen_end seen_end t
  only_ends-lead = record {
    forgives = λ k. refl;
    told = λ k forgiven. absurd (false≢true forgiven);
    literal = λ l i lt s. seen-alike _ _ _ seen_end seen_end (λ u e. refl) (literal-alike (literal_at t l i));
    number = λ i lt s. seen-alike _ _ _ seen_end seen_end (λ n e. refl) (number-alike (number_at names t i));
    text = λ i quote.
        seen-alike _ _ _ seen_end seen_end (λ s e. refl) (strings-alike i (string_at whole t i) refl);
    key = λ i quote. strings-alike i (string_at whole t i) refl;
    refuses = λ members i quote. refl;
    array = λ b e items. refl;
    object = λ b e members. refl;
  }

  alike : (x : Reading Tree) (y : Reading (Unit {0})) → MapsTo Told seen_end x y → EndsAlike x y
  alike (done v e) y h = (tt, sym (h tt))
  alike (fault k i stop) y h = λ other. sym (h other)

  -- The skip law.
  pub skip_at-law : (i : ℕ) → EndsAlike (read_at names t i) (skip_at names t i)
  skip_at-law i =
      alike (read_at names t i) (skip_at names t i)
      (value_at-told Told (whole_trees names) (only_ends names) seen_end seen_end t only_ends-lead nesting_limit i)
