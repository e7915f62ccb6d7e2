-- What was written of the lines so far, and what is left to read.
use Rattle.std.proofs.Common.{◌≡◌, ◌∙◌, ap, refl, sym, subst, ℕ, ◌+◌, Bool, true, false, List, [], ◌∷◌, ◌++◌}
use Rattle.std.proofs.Common.{Option, append_assoc, append-nil, arith, drop, length, map, take, take-append-drop}
use Rattle.std.specs.Prelude.{◌==◌}
use Rattle.std.specs.List.{All}
use Rattle.std.specs.Io.BufRead.{take_through, drop_through}
use Rattle.std.specs.Io.KnownBytes.{Appends}
use Rattle.std.proofs.KnownBytes.{Appends-nil, Appends-trans}
use Rattle.std.proofs.lemmas.List.Elements.{All-nil, All-push}
use Rattle.std.proofs.Math.Seq.{take-append_seam, take-length}
use Rattle.jiter_print.specs.Written.{AppendsPrefix}
use Rattle.json_lines.specs.Line.{Seen}
use Rattle.json_lines.specs.Log.{Answer, IsRight, WritesAll, WritesPart, chomp, kept_from, kept_of, raw_lines, refusal_of, refusals_among}
use Rattle.json_lines.specs.Log.{refusals_from, refusals_in, text_of, texts_among, texts_in, texts_of, with_first}
use Rattle.json_lines.specs.declared.log.Counts.{Counts}

-- the first line, and the others
raw-step : (x : ℕ) (xs : List ℕ)
    → raw_lines (x ∷ xs) ≡ take_through 10 (x ∷ xs) ∷ raw_lines (drop_through 10 (x ∷ xs))
raw-step x [] = by (x == 10) refl where
  by : (b : Bool) → (x == 10) ≡ b
      → raw_lines (x ∷ []) ≡ take_through 10 (x ∷ []) ∷ raw_lines (drop_through 10 (x ∷ []))
  by true e = rw e refl
  by false e = rw e refl
raw-step x (y ∷ ys) = by (x == 10) refl (raw-step y ys) where
  by : (b : Bool) → (x == 10) ≡ b
      → raw_lines (y ∷ ys) ≡ take_through 10 (y ∷ ys) ∷ raw_lines (drop_through 10 (y ∷ ys))
      → raw_lines (x ∷ y ∷ ys) ≡ take_through 10 (x ∷ y ∷ ys) ∷ raw_lines (drop_through 10 (x ∷ y ∷ ys))
  by true e others = rw e refl
  by false e others = rw e (ap (with_first x) others)

first-line : (t : List ℕ) → (t ≡ [] → ⊥) → raw_lines t ≡ take_through 10 t ∷ raw_lines (drop_through 10 t)
first-line [] some = absurd (some refl)
first-line (x ∷ xs) some = raw-step x xs

-- a text has no first line only where it is empty
pub none-left : (t : List ℕ) → take_through 10 t ≡ [] → t ≡ []
none-left [] e = refl
none-left (x ∷ xs) e = by (x == 10) refl e where
  by : (b : Bool) → (x == 10) ≡ b → take_through 10 (x ∷ xs) ≡ [] → x ∷ xs ≡ []
  by true is e = absurd (let no = rw is at e in cc)
  by false is e = absurd (let no = rw is at e in cc)

-- ---- one line more, at the end
lines-more : (xs : List Answer) (a : Answer) (others : List (List ℕ))
    → map (λ x. x.line) (xs ++ (a ∷ [])) ++ others ≡ map (λ x. x.line) xs ++ (a.line ∷ others)
lines-more [] a others = refl
lines-more (b ∷ xs) a others = ap (λ ls. b.line ∷ ls) (lines-more xs a others)

texts-more : (xs : List Answer) (a : Answer) → texts_of (xs ++ (a ∷ [])) ≡ texts_of xs ++ text_of a.outcome
texts-more [] a = append-nil (text_of a.outcome)
texts-more (b ∷ xs) a =
    ap (λ l. text_of b.outcome ++ l) (texts-more xs a)
    ∙ sym (append_assoc (text_of b.outcome) (texts_of xs) (text_of a.outcome))

refusals-more : (name : List ℕ) (number : ℕ) (xs : List Answer) (a : Answer)
    → refusals_from name number (xs ++ (a ∷ []))
    ≡ refusals_from name number xs ++ refusal_of name (number + length xs) (chomp a.line) a.outcome
refusals-more name number [] a =
    let same : number ≡ number + 0 = omega (arith) in
    append-nil (refusal_of name number (chomp a.line) a.outcome)
    ∙ ap (λ n. refusal_of name n (chomp a.line) a.outcome) same
refusals-more name number (b ∷ xs) a =
    let same : number + 1 + length xs ≡ number + length (b ∷ xs) = omega (arith) in
    ap (λ l. refusal_of name number (chomp b.line) b.outcome ++ l)
    (refusals-more name (number + 1) xs a
    ∙ ap (λ n. refusals_from name (number + 1) xs ++ refusal_of name n (chomp a.line) a.outcome) same)
    ∙ sym (append_assoc (refusal_of name number (chomp b.line) b.outcome) (refusals_from name (number + 1) xs) _)

kept-more : (xs : List Answer) (a : Answer) → kept_from (xs ++ (a ∷ [])) ≡ kept_from xs ++ kept_of a.line a.outcome
kept-more [] a = append-nil (kept_of a.line a.outcome)
kept-more (b ∷ xs) a =
    ap (λ l. kept_of b.line b.outcome ++ l) (kept-more xs a)
    ∙ sym (append_assoc (kept_of b.line b.outcome) (kept_from xs) (kept_of a.line a.outcome))

texts-among-more : (xs : List Answer) (a : Answer)
    → texts_among (xs ++ (a ∷ [])) ≡ texts_among xs + texts_in a.outcome
texts-among-more [] a = omega (arith)
texts-among-more (b ∷ xs) a = omega (arith, texts-among-more xs a)

refusals-among-more : (xs : List Answer) (a : Answer)
    → refusals_among (xs ++ (a ∷ [])) ≡ refusals_among xs + refusals_in a.outcome
refusals-among-more [] a = omega (arith)
refusals-among-more (b ∷ xs) a = omega (arith, refusals-among-more xs a)

length-more : (xs : List Answer) (a : Answer) → length (xs ++ (a ∷ [])) ≡ length xs + 1
length-more [] a = refl
length-more (b ∷ xs) a = omega (arith, length-more xs a)

-- The lines up to those of the rest are written; the next one has this number.
pub record SoFar (becomes : List ℕ → Seen → Type 0) (name : List ℕ) (first : ℕ) (t rest : List ℕ) (number : ℕ) (counts : Counts)
    (out out' err err' bad bad' : Option (List ℕ)) : Type 0 where
  pub answers : List Answer
  pub lines : map (λ a. a.line) answers ++ raw_lines rest ≡ raw_lines t
  pub right : All (λ a. IsRight becomes (chomp a.line) a.outcome) answers
  pub texts : Appends out out' (texts_of answers)
  pub refusals : Appends err err' (refusals_from name first answers)
  pub kept : Appends bad bad' (kept_from answers)
  pub texts_counted : counts.texts ≡ texts_among answers
  pub refusals_counted : counts.refused ≡ refusals_among answers
  pub numbered : first + length answers ≡ number

-- all of some bytes is a prefix of them
pub whole-part : (a b : Option (List ℕ)) (bs : List ℕ) → Appends a b bs → AppendsPrefix a b bs
whole-part a b bs h = (length bs, subst (Appends a b) (sym (take-length bs)) h)

-- bytes that are appended, and a prefix of more of them
pub prefix-more : (a b c : Option (List ℕ)) (xs ys all : List ℕ) → Appends a b xs → AppendsPrefix b c ys
    → xs ++ ys ≡ all → AppendsPrefix a c all
prefix-more a b c xs ys all more prefix is =
    let written = xs ++ take prefix.0 ys in
    let left = drop prefix.0 ys in
    let whole : all ≡ written ++ left =
    sym is ∙ ap (λ l. xs ++ l) (sym (take-append-drop prefix.0 ys))
    ∙ sym (append_assoc xs (take prefix.0 ys) left) in
    let front : take (length written) all ≡ written =
    ap (take (length written)) whole ∙ take-append_seam written left in
    (length written, subst (Appends a c) (sym front) (Appends-trans a b c xs (take prefix.0 ys) more prefix.1))

module _ (becomes : List ℕ → Seen → Type 0) (name : List ℕ) (first : ℕ) (t : List ℕ) (out err bad : Option (List ℕ)) where
  -- before the first line
  pub begun : (counts : Counts) → counts.texts ≡ 0 → counts.refused ≡ 0 → SoFar becomes name first t t first counts out out err err bad bad
  begun counts no-texts none-refused = record {
    answers = [];
    lines = refl;
    right = All-nil (λ a. IsRight becomes (chomp a.line) a.outcome);
    texts = Appends-nil out;
    refusals = Appends-nil err;
    kept = Appends-nil bad;
    texts_counted = no-texts;
    refusals_counted = none-refused;
    numbered = omega (arith);
  }

  module _ (rest : List ℕ) (number : ℕ) (counts : Counts) (out' err' bad' : Option (List ℕ))
      (h : SoFar becomes name first t rest number counts out out' err err' bad bad') where
    -- nothing more is written
    pub stopped : WritesPart becomes name first t out out' err err' bad bad'
    stopped = record {
      answers = h.answers;
      others = raw_lines rest;
      lines = h.lines;
      right = h.right;
      texts = whole-part out out' _ h.texts;
      refusals = whole-part err err' _ h.refusals;
      kept = whole-part bad bad' _ h.kept;
    }

    -- no line is left
    pub all-done : rest ≡ [] → WritesAll becomes name first t counts out out' err err' bad bad'
    all-done none = record {
      answers = h.answers;
      lines = sym (append-nil (map (λ a. a.line) h.answers))
          ∙ ap (λ r. map (λ a. a.line) h.answers ++ raw_lines r) (sym none) ∙ h.lines;
      right = h.right;
      texts = h.texts;
      refusals = h.refusals;
      kept = h.kept;
      texts_counted = h.texts_counted;
      refusals_counted = h.refusals_counted;
    }

    -- ---- the next line, and what it becomes
    module _ (some : rest ≡ [] → ⊥) (o : Option Seen) (right : IsRight becomes (chomp (take_through 10 rest)) o) where
      abbrev line : List ℕ
      line = take_through 10 rest

      abbrev next : Answer
      next = record { line = line; outcome = o }

      abbrev more : List Answer
      more = h.answers ++ (next ∷ [])

      lines-are : map (λ a. a.line) more ++ raw_lines (drop_through 10 rest) ≡ raw_lines t
      lines-are =
          lines-more h.answers next (raw_lines (drop_through 10 rest))
          ∙ ap (λ ls. map (λ x. x.line) h.answers ++ ls) (sym (first-line rest some)) ∙ h.lines

      -- what is reported of it
      abbrev pub report : List ℕ
      report = refusal_of name number (chomp line) o

      texts-are : texts_of h.answers ++ text_of o ≡ texts_of more
      texts-are = sym (texts-more h.answers next)

      refusals-are : refusals_from name first h.answers ++ report ≡ refusals_from name first more
      refusals-are =
          ap (λ n. refusals_from name first h.answers ++ refusal_of name n (chomp line) o) (sym h.numbered)
          ∙ sym (refusals-more name first h.answers next)

      kept-is : kept_from h.answers ++ kept_of line o ≡ kept_from more
      kept-is = sym (kept-more h.answers next)

      -- it is written
      pub one-more : (out'' err'' bad'' : Option (List ℕ)) (counts' : Counts) → Appends out' out'' (text_of o)
          → Appends err' err'' report → Appends bad' bad'' (kept_of line o) → counts'.texts ≡ counts.texts + texts_in o
          → counts'.refused ≡ counts.refused + refusals_in o
          → SoFar becomes name first t (drop_through 10 rest) (number + 1) counts' out out'' err err'' bad bad''
      one-more out'' err'' bad'' counts' text refusal kept texts refusals = record {
        answers = more;
        lines = lines-are;
        right = All-push (λ a. IsRight becomes (chomp a.line) a.outcome) h.answers next h.right right;
        texts = subst (Appends out out'') texts-are (Appends-trans out out' out'' _ _ h.texts text);
        refusals = subst (Appends err err'') refusals-are (Appends-trans err err' err'' _ _ h.refusals refusal);
        kept = subst (Appends bad bad'') kept-is (Appends-trans bad bad' bad'' _ _ h.kept kept);
        texts_counted = omega (arith, texts, h.texts_counted, texts-among-more h.answers next);
        refusals_counted = omega (arith, refusals, h.refusals_counted, refusals-among-more h.answers next);
        numbered = omega (arith, h.numbered, length-more h.answers next);
      }

      -- a prefix of it is
      pub part-more : (out'' err'' bad'' : Option (List ℕ)) → AppendsPrefix out' out'' (text_of o)
          → AppendsPrefix err' err'' report → AppendsPrefix bad' bad'' (kept_of line o)
          → WritesPart becomes name first t out out'' err err'' bad bad''
      part-more out'' err'' bad'' text refusal kept = record {
        answers = more;
        others = raw_lines (drop_through 10 rest);
        lines = lines-are;
        right = All-push (λ a. IsRight becomes (chomp a.line) a.outcome) h.answers next h.right right;
        texts = prefix-more out out' out'' _ _ _ h.texts text texts-are;
        refusals = prefix-more err err' err'' _ _ _ h.refusals refusal refusals-are;
        kept = prefix-more bad bad' bad'' _ _ _ h.kept kept kept-is;
      }
