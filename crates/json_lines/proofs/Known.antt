-- The same where the bytes that a reader has left are known, or not.
use Rattle.std.proofs.Common.{◌≡◌, ◌∙◌, ap, refl, sym, subst, ℕ, ◌+◌, List, [], ◌∷◌, Option, Some, None, IfSome}
use Rattle.std.proofs.Common.{arith, length}
use Rattle.std.specs.Prelude.{◌↔◌, Bool, false, IsTrue, Result, Ok, Err, OnErr}
use Rattle.std.proofs.lemmas.Option.{IfSome_then}
use Rattle.std.specs.Io.BufRead.{drop_through, take_through}
use Rattle.std.specs.Io.KnownBytes.{Appends}
use Rattle.std.proofs.KnownBytes.{Appends-nil}
use Rattle.jiter_print.specs.Written.{AppendsPrefix}
use Rattle.json_lines.specs.Line.{Seen}
use Rattle.json_lines.specs.Log.{IsRight, WritesAll, WritesPart, chomp, kept_of, refusal_of, refusals_in, text_of, texts_in}
use Rattle.json_lines.specs.declared.log.Counts.{Counts}
use Rattle.json_lines.proofs.Lines.{SoFar, all-done, begun, none-left, one-more, part-more, stopped}

-- what holds anyway holds of an error
pub if-err : {T E P : Type 0} (r : Result T E) → P → OnErr r P
if-err (Ok x) p = tt
if-err (Err e) p = p

-- what holds anyway, beside what holds of an error
pub err-with : {T E P : Type 0} (Q : Type 0) (r : Result T E) → P → OnErr r Q → OnErr r (P × Q)
err-with Q (Ok x) p q = tt
err-with Q (Err e) p q = (p, q)

-- what a test decides does not hold where the test is false
pub not-so : {P : Type 0} (b : Bool) → (IsTrue b ↔ P) → b ≡ false → P → ⊥
not-so b test is p = let yes = test.1 p in absurd (cc)

-- a list of length 0
empty : (xs : List ℕ) → length xs ≡ 0 → xs ≡ []
empty [] e = refl
empty (x ∷ xs) e = absurd (omega (arith, e))

-- none of some bytes is a prefix of them
pub no-part : (a : Option (List ℕ)) (bs : List ℕ) → AppendsPrefix a a bs
no-part a bs = (0, Appends-nil a)

-- Of a reader that had these bytes, the lines up to those of the rest are written; the next one has this number.
abbrev pub Known : (List ℕ → Seen → Type 0) → List ℕ → ℕ → Option (List ℕ) → Option (List ℕ) → ℕ → Counts
    → Option (List ℕ) → Option (List ℕ) → Option (List ℕ) → Option (List ℕ) → Option (List ℕ) → Option (List ℕ) → Type 0
Known becomes name first from from' number counts out out' err err' bad bad' = IfSome from (λ t. (rest : List ℕ) × (from' ≡ Some rest)
    × SoFar becomes name first t rest number counts out out' err err' bad bad')

module _ (becomes : List ℕ → Seen → Type 0) (name : List ℕ) (first : ℕ) (from out err bad : Option (List ℕ)) where
  pub known-begun : (counts : Counts) → counts.texts ≡ 0 → counts.refused ≡ 0
      → Known becomes name first from from first counts out out err err bad bad
  known-begun counts a b = by from where
    by : (x : Option (List ℕ)) → Known becomes name first x x first counts out out err err bad bad
    by None = tt
    by (Some t) = (t, refl, begun becomes name first t out err bad counts a b)

  module _ (from' : Option (List ℕ)) (number : ℕ) (counts : Counts) (out' err' bad' : Option (List ℕ))
      (h : Known becomes name first from from' number counts out out' err err' bad bad') where
    pub known-stopped : IfSome from (λ t. WritesPart becomes name first t out out' err err' bad bad')
    known-stopped = IfSome_then from h (λ t x. stopped becomes name first t out err bad x.0 number counts out' err' bad' x.2)

    -- a line was read
    module _ (line : List ℕ) (read : IfSome from' (λ xs. line ≡ take_through 10 xs)) where
      line-is : (rest : List ℕ) → from' ≡ Some rest → line ≡ take_through 10 rest
      line-is rest is = subst (λ f. IfSome f (λ xs. line ≡ take_through 10 xs)) is read

      -- it was the end
      pub known-end : length line ≡ 0 → IfSome from (λ t. WritesAll becomes name first t counts out out' err err' bad bad')
      known-end none = IfSome_then from h (λ t x.
          all-done becomes name first t out err bad x.0 number counts out' err' bad' x.2
          (none-left x.0 (sym (line-is x.0 x.1) ∙ empty line none)))

      module _ (some : length line ≡ 0 → ⊥) (o : Option Seen) (right : IsRight becomes (chomp line) o) where
        is-some : (rest : List ℕ) → from' ≡ Some rest → rest ≡ [] → ⊥
        is-some rest is none = some (ap length (line-is rest is ∙ ap (take_through 10) none))

        right-is : (rest : List ℕ) → from' ≡ Some rest → IsRight becomes (chomp (take_through 10 rest)) o
        right-is rest is = subst (λ l. IsRight becomes (chomp l) o) (line-is rest is) right

        pub known-more : (from'' : Option (List ℕ)) → IfSome from' (λ xs. from'' ≡ Some (drop_through 10 xs))
            → (out'' err'' bad'' : Option (List ℕ)) (counts' : Counts) → Appends out' out'' (text_of o)
            → Appends err' err'' (refusal_of name number (chomp line) o) → Appends bad' bad'' (kept_of line o) → counts'.texts ≡ counts.texts + texts_in o
            → counts'.refused ≡ counts.refused + refusals_in o
            → Known becomes name first from from'' (number + 1) counts' out out'' err err'' bad bad''
        known-more from'' left out'' err'' bad'' counts' text refusal kept texts refusals = IfSome_then from h (λ t x. (
          drop_through 10 x.0,
          subst (λ f. IfSome f (λ xs. from'' ≡ Some (drop_through 10 xs))) x.1 left,
          one-more becomes name first t out err bad x.0 number counts out' err' bad' x.2 (is-some x.0 x.1) o (right-is x.0 x.1)
              out'' err'' bad'' counts' text
              (subst (λ l. Appends err' err'' (refusal_of name number (chomp l) o)) (line-is x.0 x.1) refusal)
              (subst (λ l. Appends bad' bad'' (kept_of l o)) (line-is x.0 x.1) kept) texts refusals,
        ))

        pub known-part : (out'' err'' bad'' : Option (List ℕ)) → AppendsPrefix out' out'' (text_of o)
            → AppendsPrefix err' err'' (refusal_of name number (chomp line) o) → AppendsPrefix bad' bad'' (kept_of line o)
            → IfSome from (λ t. WritesPart becomes name first t out out'' err err'' bad bad'')
        known-part out'' err'' bad'' text refusal kept = IfSome_then from h (λ t x.
            part-more becomes name first t out err bad x.0 number counts out' err' bad' x.2 (is-some x.0 x.1) o (right-is x.0 x.1)
            out'' err'' bad'' text
            (subst (λ l. AppendsPrefix err' err'' (refusal_of name number (chomp l) o)) (line-is x.0 x.1) refusal)
            (subst (λ l. AppendsPrefix bad' bad'' (kept_of l o)) (line-is x.0 x.1) kept))
