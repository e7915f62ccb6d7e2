-- A number that is refused can be ended by a zero or as it is, unless the input ends or digits are too many.
use Rattle.jiter_steps.proofs.Words.{◌≡◌, ◌⊎◌, inl, inr, ℕ, ◌+◌, ◌≤◌, Bool, true, false, List, [], ◌∷◌, ◌++◌, length}
use Rattle.jiter_steps.proofs.Words.{take, refl, sym, ap, subst, arith, append-nil, slice_get, Option, Some, None, ◌==◌}
use Rattle.jiter_steps.proofs.Words.{codes, false≢true, slice_get_within, Kind, eof_value, expected_ident, IsNumberText}
use Rattle.jiter_steps.proofs.Words.{span_then, number_span, with_value, number_at, Scanned, taken, failed, Stands}
use Rattle.jiter_steps.proofs.Words.{Span, byte_then, word_at, stands-length, stands-within, stands-append}
use Rattle.jiter_steps.proofs.Words.{slice-stands, slice-one, can_go_on, SpellsNumber, number_out_of_range, IsDecimal}
use Rattle.jiter_steps.proofs.Words.{decimal-is, zero-magnitude, Spelled, Unfinished, can_end, number-spelled}
use Rattle.jiter_steps.proofs.Reading.Bounds.{either}
use Rattle.jiter_steps.proofs.Fault.Completions.{CanClose, taken-length, taken-first, prefix-kept}
use Rattle.jiter_steps.proofs.Fault.SameSpelling.{stands-too}

-- where an error that can go on is
abbrev pub LiveIs : {A : Type 0} → (ℕ → Type 0) → Scanned A → Type 0
LiveIs At (taken a e) = Unit {0}
LiveIs At (failed k j) = can_go_on k ≡ true → At j

-- an error that cannot
pub no_live : {A : Type 0} → false ≡ true → A
no_live live = absurd (false≢true live)

pub map-live : {A : Type 0} (At Then : ℕ → Type 0) → ((j : ℕ) → At j → Then j) → (x : Scanned A) → LiveIs At x
    → LiveIs Then x
map-live At Then all (taken a e) h = tt
map-live At Then all (failed k j) h = λ live. all j (h live)

pub then-live : (At : ℕ → Type 0) (x : Span) (next : ℕ → Span) → LiveIs At x
    → ((e : ℕ) → x ≡ taken tt e → LiveIs At (next e)) → LiveIs At (span_then x next)
then-live At (taken u e) next h all = all e refl
then-live At (failed k j) next h all = h

-- an error of a number that can go on is one up to which its text can be ended
go_on-ends : (k : Kind) → can_go_on k ≡ true → can_end k ≡ true
go_on-ends eof_value h = h
go_on-ends expected_ident h = h
go_on-ends number_out_of_range h = h
go_on-ends k h = refl

-- a zero is a number
pub zero-number : (names : Bool) (u : List ℕ) (x : ℕ) → slice_get u x ≡ Some 48 → SpellsNumber names u x (x + 1)
zero-number names u x h =
    let inside = slice_get_within u x 48 h in
    let text = inl (subst IsDecimal (sym (slice-one u x 48 h)) (decimal-is [] (inl refl) (codes "0") zero-magnitude)) in
    record { ordered = omega arith; within = omega arith; text = text }

module _ (t : List ℕ) where
  -- a word has no such error
  pub word-live : (At : ℕ → Type 0) (w : List ℕ) (i : ℕ) → LiveIs At (word_at t w i)
  unfolding word_at
  word-live At [] i = tt
  word-live At (c ∷ w) i = by (word-live At w (i + 1)) (slice_get t i) where
    by : LiveIs At (word_at t w (i + 1)) → (o : Option ℕ) → LiveIs At (byte_then (word_at t w (i + 1)) c i o)
    by rest None = no_live
    by rest (Some b) = either (LiveIs At) (b == c) _ _ rest no_live

  -- with a zero or nothing more a number is from i to the text's end
  abbrev pub CanEndNumber : Bool → ℕ → ℕ → Type 0
  CanEndNumber names i x = (i ≤ x) × CanClose t x (λ u. SpellsNumber names u i (length u))

  zero-stands : (x : ℕ) → x ≤ length t → (f : List ℕ) → (f ≡ []) ⊎ (f ≡ codes "0")
      → Stands (take x t ++ (f ++ [])) x (x + length f) f
  zero-stands x within f (inl e) = rw e (omega arith)
  zero-stands x within f (inr e) = rw e ((taken-first t x within (codes "0") 48 refl), refl)

  number-ends : (names : Bool) (i x : ℕ) → x ≤ length t → Unfinished t (IsNumberText names) i x → CanEndNumber names i x
  number-ends names i x within h =
      let f = h.last in
      let u = take x t ++ (f ++ []) in
      let size = ap length (append-nil f) in
      let long = taken-length t x within (f ++ []) in
      let order = stands-length t i x h.prefix h.stands in
      let at_end : x + length f ≡ length u = omega arith in
      let prefix = stands-too t u x (prefix-kept t x within (f ++ [])) i x h.prefix (omega arith) h.stands in
      let all = stands-append u i x (x + length f) h.prefix f prefix (zero-stands x within f h.zero) in
      let text = subst (IsNumberText names) (slice-stands u i (x + length f) (h.prefix ++ f) all) h.is in (
        omega arith,
        record {
          filler = f;
          closers = [];
          is_filler = elim h.zero [
            | inl e ↦ inl e
            | inr e ↦ inr (inl e)
          ];
          are_closers = tt;
          within = within;
          is = subst (SpellsNumber names u i) at_end
              (record { ordered = omega arith; within = omega arith; text = text });
        },
      )

  number-live : (names : Bool) (i : ℕ) → i ≤ length t → (x : Span) → Spelled t (IsNumberText names) i x
      → LiveIs (CanEndNumber names i) (with_value t i x)
  number-live names i le (taken u e) s = tt
  number-live names i le (failed k j) s =
      λ live. let h = s.1 (go_on-ends k live) in number-ends names i j (stands-within t i j h.prefix le h.stands) h

  -- A number whose error can go on.
  pub number-open : (names : Bool) (i : ℕ) → i ≤ length t → LiveIs (CanEndNumber names i) (number_at names t i)
  unfolding number_at
  number-open names i le = number-live names i le (number_span names t i) (number-spelled t names i)
