-- Tokens of a pointer: where each ends, the index that one spells, and the names.
use Rattle.jiter_value.proofs.Words.{◌≡◌, ◌≢◌, ◌↔◌, ℕ, zero, suc, ◌+◌, ◌^◌, ◌<◌, ◌≤◌, List, [], ◌∷◌, ◌++◌, length, drop}
use Rattle.jiter_value.proofs.Words.{get_or, refl, sym, ap, subst, ◌∙◌, arith, option_and_then, eqb, true≢false}
use Rattle.jiter_value.proofs.Words.{if◌then◌else◌, Bool, Option, Some, None, Result, Ok, Err, slice_index, true, false}
use Rattle.jiter_value.proofs.Words.{slice_split, bytes_eq, false_from_ne_true, bytes_eq-Decides, Tree, item_of}
use Rattle.jiter_value.proofs.Words.{token_of, pointed, is_slash, views, JsonValue}
use Rattle.std.proofs.Common.{ne_eqb}
use Rattle.std.specs.Fmt.{decimal}
use Rattle.std.specs.List.{onto_first}
use Rattle.std.specs.Result.{result_ok}
use Rattle.std.specs.Str.Parse.{ParsesUnsigned, AllDigits, without_leading_plus, digits_value}
use Rattle.std.proofs.lemmas.Fmt.{decimal-digits_value, decimal_digit, decimal_injective, first_decimal, parse-decimal}
use Rattle.std.proofs.lemmas.List.Splits.{slice_split-cons_no}
use Rattle.std.proofs.lemmas.Str.Parse.{numerals_by_value, tells_digits}
use Rattle.jiter_value.specs.Pointer.{item_spelled, pointed_by}

-- ---- Where a token ends.

abbrev HasNoSlash : List ℕ → Type 0
HasNoSlash xs = (i : ℕ) → i < length xs → get_or xs i 0 ≢ 47

pub first_token : (xs rest : List ℕ) → HasNoSlash xs
    → slice_split is_slash (xs ++ 47 ∷ rest) ≡ xs ∷ slice_split is_slash rest
first_token [] rest h = refl
first_token (x ∷ xs) rest h =
    slice_split-cons_no is_slash x (xs ++ 47 ∷ rest) (ne_eqb x 47 (h 0 (omega arith)))
    ∙ ap (onto_first x) (first_token xs rest (λ i less. h (suc i) (omega arith)))

pub last_token : (xs : List ℕ) → HasNoSlash xs → slice_split is_slash xs ≡ xs ∷ []
last_token [] h = refl
last_token (x ∷ xs) h =
    slice_split-cons_no is_slash x xs (ne_eqb x 47 (h 0 (omega arith)))
    ∙ ap (onto_first x) (last_token xs (λ i less. h (suc i) (omega arith)))

pub nothing_after : (o : Option Tree) → option_and_then (pointed []) o ≡ o
nothing_after None = refl
nothing_after (Some v) = refl

pub no_slash_first : (path : List ℕ) (v : Tree) → 0 < length path → ((rest : List ℕ) → path ≢ 47 ∷ rest)
    → pointed_by path v ≡ None
no_slash_first [] v some h = absurd (omega (arith, some))
no_slash_first (x ∷ xs) v some h = rw (ne_eqb x 47 (λ e. h xs (ap (λ y. y ∷ xs) e))) refl

-- ---- The index that a token spells.

first_of_decimal : (n : ℕ) → n < 2 ^ 64 → (1 < length (decimal n)) → 49 ≤ get_or (decimal n) 0 0
first_of_decimal zero lt long = absurd (omega (arith, long, ap length (decimal_digit 0 (omega arith))))
first_of_decimal (suc n) lt long = first_decimal (suc n) (omega arith) lt

pub no_index : (token : List ℕ) (n : ℕ) → 1 < length token → slice_index token 0 < 49 → n < 2 ^ 64
    → decimal n ≢ token
no_index token n long low lt e =
    let first = first_of_decimal n lt (subst (λ s. 1 < length s) (sym e) long) in
    omega (arith, low, subst (λ s. 49 ≤ get_or s 0 0) e first)

lone_zero : (token : List ℕ) → (1 < length token → 49 ≤ slice_index token 0) → 0 < length token
    → get_or token 0 0 ≡ 48 → length token ≡ 1
lone_zero [] h some e = absurd (omega (arith, some))
lone_zero (c ∷ []) h some e = refl
lone_zero (c ∷ d ∷ cs) h some e = absurd (omega (arith, e, h (omega arith)))

abbrev or_zero : Option ℕ → ℕ
or_zero None = 0
or_zero (Some n) = n

-- a token that is one digit, or begins with no sign and no zero, is as it is
unsigned : (token : List ℕ) → (1 < length token → 49 ≤ slice_index token 0)
    → 0 < length (without_leading_plus token) → without_leading_plus token ≡ token
unsigned [] h some = absurd (omega (arith, some))
unsigned (c ∷ []) h some = one (eqb c 43) some
  where
    one : (b : _) → 0 < length (drop (if b then 1 else 0) (c ∷ [])) → drop (if b then 1 else 0) (c ∷ []) ≡ c ∷ []
    one true s = absurd (omega (arith, s))
    one false s = refl
unsigned (c ∷ d ∷ cs) h some = rw (ne_eqb c 43 (λ e. omega (arith, e, h (omega arith)))) refl

pub index_parsed : {E : Type 0} (token : List ℕ) (r : Result ℕ E) → ParsesUnsigned 64 10 token r
    → (1 < length token → 49 ≤ slice_index token 0) → (n : ℕ) → n < 2 ^ 64
    → (result_ok r ≡ Some n) ↔ (decimal n ≡ token)
index_parsed token (Ok m) h first n lt =
    let same = unsigned token first h.0.0.0 in
    let numeral = subst (λ s. (0 < length s) × AllDigits 10 s) same h.0.0 in
    let value : digits_value 10 token ≡ m = sym (h.1 ∙ ap (digits_value 10) same) in
    let small : m < 2 ^ 64 = subst (λ v. v < 2 ^ 64) (sym h.1) h.0.1 in
    let lone : get_or token 0 0 ≡ 48 → length token ≡ 1 = λ e. lone_zero token first numeral.0 e in
    let is : decimal m ≡ token = ap decimal (sym value)
    ∙ decimal-digits_value (numerals_by_value _ tells_digits) token numeral.1 numeral.0 lone
    (subst (λ v. v < 2 ^ 64) (sym value) small) in (
      λ e. ap decimal (sym (ap or_zero e)) ∙ is,
      λ e. ap Some (decimal_injective m n small lt (is ∙ sym e)),
    )
index_parsed token (Err x) h first n lt = (
  λ e. absurd (cc),
  λ e. absurd (cc (parse-decimal 64 n token (Err x) lt lt (sym e) h)),
)

-- ---- The item there.

same_bytes : (xs ys : List ℕ) → xs ≡ ys → bytes_eq xs ys ≡ true
same_bytes xs ys e = (bytes_eq-Decides xs ys).1 e

other_bytes : (xs ys : List ℕ) → (xs ≡ ys → ⊥) → bytes_eq xs ys ≡ false
other_bytes xs ys h = false_from_ne_true (bytes_eq xs ys) (λ e. h ((bytes_eq-Decides xs ys).0 e))

spelled_at : (token : List ℕ) (n i : ℕ) (vs : List JsonValue) → i + n < 2 ^ 64 → decimal (i + n) ≡ token
    → item_of n (views vs) ≡ item_spelled token i (views vs)
spelled_at token n i [] lt e = refl
spelled_at token zero i (v ∷ vs) lt e = rw (same_bytes (decimal i) token (ap decimal (omega arith) ∙ e)) refl
spelled_at token (suc n) i (v ∷ vs) lt e =
    rw (other_bytes (decimal i) token
    (λ f. omega (arith, decimal_injective i (i + suc n) (omega (arith, lt)) lt (f ∙ sym e))))
    (spelled_at token n (i + 1) vs (omega (arith, lt)) (ap decimal (omega arith) ∙ e))

pub spelled_there : (token : List ℕ) (n : ℕ) (vs : List JsonValue) → n < 2 ^ 64 → decimal n ≡ token
    → item_of n (views vs) ≡ item_spelled token 0 (views vs)
spelled_there token n vs lt e = spelled_at token n 0 vs (omega (arith, lt)) (ap decimal (omega arith) ∙ e)

pub spelled_nowhere : (token : List ℕ) → ((n : ℕ) → n < 2 ^ 64 → decimal n ≢ token) → (i : ℕ) (vs : List JsonValue)
    → i + length vs ≤ 2 ^ 64 → None ≡ item_spelled token i (views vs)
spelled_nowhere token h i [] lt = refl
spelled_nowhere token h i (v ∷ vs) lt =
    rw (other_bytes (decimal i) token (h i (omega (arith, lt))))
    (spelled_nowhere token h (i + 1) vs (omega (arith, lt)))

-- ---- Whether a token spells a name, asked of the bytes of both.

pub spelled_if : (token bytes key name : List ℕ) (told : Bool) → bytes ≡ token → name ≡ key
    → (told ≡ true) ↔ (token_of name ≡ bytes) → told ≡ true → bytes_eq (token_of key) token ≡ true
spelled_if token bytes key name told b k h e =
    same_bytes (token_of key) token (ap token_of (sym k) ∙ h.0 e ∙ b)

pub not_spelled_if : (token bytes key name : List ℕ) (told : Bool) → bytes ≡ token → name ≡ key
    → (told ≡ true) ↔ (token_of name ≡ bytes) → told ≡ false → bytes_eq (token_of key) token ≡ false
not_spelled_if token bytes key name told b k h e =
    other_bytes (token_of key) token (λ f. true≢false (sym (h.1 (ap token_of k ∙ f ∙ sym b)) ∙ e))
