-- A log that is cut between two lines is converted as the whole one is.
use Rattle.std.proofs.Common.{◌≡◌, ◌∙◌, ap, inl, inr, refl, sym, subst, ℕ, ◌+◌, Bool, true, false, List, [], ◌∷◌, ◌++◌}
use Rattle.std.proofs.Common.{Option, Some, None, append_assoc, arith, length, map}
use Rattle.std.specs.Prelude.{◌==◌}
use Rattle.std.specs.List.{All}
use Rattle.std.specs.Io.KnownBytes.{Appends}
use Rattle.std.proofs.KnownBytes.{Appends-trans}
use Rattle.std.proofs.lemmas.List.{length-map, map-append}
use Rattle.std.proofs.lemmas.List.Elements.{All-append, All-head, All-tail}
use Rattle.json_lines.specs.Cut.{IsCutAnywhere, IsDecided, IsJoined, IsOne, IsWholeLines, line_after}
use Rattle.json_lines.specs.Line.{Seen}
use Rattle.json_lines.specs.Log.{Answer, IsRight, chomp, kept_from, kept_of, raw_lines, refusal_of, refusals_among, refusals_from}
use Rattle.json_lines.specs.Log.{text_of, texts_among, texts_of, with_first}
use Rattle.json_lines.specs.declared.log.Counts.{Counts}

-- ---- the lines of both parts
with-first-joined : (x : ℕ) (ls ms : List (List ℕ)) → (ls ≡ [] → ⊥) → with_first x (ls ++ ms) ≡ with_first x ls ++ ms
with-first-joined x [] ms some = absurd (some refl)
with-first-joined x (l ∷ ls) ms some = refl

with-first-some : (x : ℕ) (ls : List (List ℕ)) → with_first x ls ≡ [] → ⊥
with-first-some x [] e = absurd (cc)
with-first-some x (l ∷ ls) e = absurd (cc)

-- a text that ends with a line feed has a line
some-line : (front : List ℕ) → raw_lines (front ++ 10 ∷ []) ≡ [] → ⊥
some-line [] e = absurd (cc)
some-line (x ∷ front) e = by (x == 10) refl e where
  by : (c : Bool) → (x == 10) ≡ c → raw_lines (x ∷ front ++ 10 ∷ []) ≡ [] → ⊥
  by true is h = let no = rw is at h in absurd (cc)
  by false is h = with-first-some x (raw_lines (front ++ 10 ∷ [])) (rw is at h)

ended-joined : (front b : List ℕ) → raw_lines ((front ++ 10 ∷ []) ++ b) ≡ raw_lines (front ++ 10 ∷ []) ++ raw_lines b
ended-joined [] b = refl
ended-joined (x ∷ front) b = by (x == 10) refl (ended-joined front b) where
  by : (c : Bool) → (x == 10) ≡ c
      → raw_lines ((front ++ 10 ∷ []) ++ b) ≡ raw_lines (front ++ 10 ∷ []) ++ raw_lines b
      → raw_lines ((x ∷ front ++ 10 ∷ []) ++ b) ≡ raw_lines (x ∷ front ++ 10 ∷ []) ++ raw_lines b
  by true is more = rw is (ap (λ ls. (x ∷ []) ∷ ls) more)
  by false is more = rw is (ap (with_first x) more
      ∙ with-first-joined x (raw_lines (front ++ 10 ∷ [])) (raw_lines b) (some-line front))

-- The lines of a text that is cut after a line feed are those of its parts.
pub lines-joined : (a b : List ℕ) → IsWholeLines a → raw_lines (a ++ b) ≡ raw_lines a ++ raw_lines b
lines-joined a b (inl none) =
    subst (λ l. raw_lines (l ++ b) ≡ raw_lines l ++ raw_lines b) (sym none) refl
lines-joined a b (inr (front, is)) =
    subst (λ l. raw_lines (l ++ b) ≡ raw_lines l ++ raw_lines b) (sym is) (ended-joined front b)

-- ---- what became of them
texts-joined : (xs ys : List Answer) → texts_of (xs ++ ys) ≡ texts_of xs ++ texts_of ys
texts-joined [] ys = refl
texts-joined (x ∷ xs) ys =
    ap (λ l. text_of x.outcome ++ l) (texts-joined xs ys)
    ∙ sym (append_assoc (text_of x.outcome) (texts_of xs) (texts_of ys))

refusals-joined : (name : List ℕ) (first : ℕ) (xs ys : List Answer)
    → refusals_from name first (xs ++ ys) ≡ refusals_from name first xs ++ refusals_from name (first + length xs) ys
refusals-joined name first [] ys =
    let same : first ≡ first + 0 = omega (arith) in
    ap (λ n. refusals_from name n ys) same
refusals-joined name first (x ∷ xs) ys =
    let same : first + 1 + length xs ≡ first + length (x ∷ xs) = omega (arith) in
    ap (λ l. refusal_of name first (chomp x.line) x.outcome ++ l)
    (refusals-joined name (first + 1) xs ys
    ∙ ap (λ n. refusals_from name (first + 1) xs ++ refusals_from name n ys) same)
    ∙ sym (append_assoc (refusal_of name first (chomp x.line) x.outcome) (refusals_from name (first + 1) xs) _)

kept-joined : (xs ys : List Answer) → kept_from (xs ++ ys) ≡ kept_from xs ++ kept_from ys
kept-joined [] ys = refl
kept-joined (x ∷ xs) ys =
    ap (λ l. kept_of x.line x.outcome ++ l) (kept-joined xs ys)
    ∙ sym (append_assoc (kept_of x.line x.outcome) (kept_from xs) (kept_from ys))

texts-added : (xs ys : List Answer) → texts_among (xs ++ ys) ≡ texts_among xs + texts_among ys
texts-added [] ys = omega (arith)
texts-added (x ∷ xs) ys = omega (arith, texts-added xs ys)

refusals-added : (xs ys : List Answer) → refusals_among (xs ++ ys) ≡ refusals_among xs + refusals_among ys
refusals-added [] ys = omega (arith)
refusals-added (x ∷ xs) ys = omega (arith, refusals-added xs ys)

-- ---- two parts, and the whole
pub log-joined : IsJoined
log-joined becomes name first a b of_a of_b counts out out' out'' err err' err'' bad bad' bad'' whole p q sum =
    let number : first + length p.answers ≡ line_after first a =
    ap (λ n. first + n) (sym (length-map p.answers (λ x. x.line)) ∙ ap length p.lines) in
    let reports : refusals_from name first p.answers ++ refusals_from name (line_after first a) q.answers
    ≡ refusals_from name first (p.answers ++ q.answers) =
    ap (λ n. refusals_from name first p.answers ++ refusals_from name n q.answers) (sym number)
    ∙ sym (refusals-joined name first p.answers q.answers) in record {
      answers = p.answers ++ q.answers;
      lines = map-append (λ x. x.line) p.answers q.answers ∙ ap (λ ls. ls ++ map (λ x. x.line) q.answers) p.lines
          ∙ ap (λ ls. raw_lines a ++ ls) q.lines ∙ sym (lines-joined a b whole);
      right = All-append (λ x. IsRight becomes (chomp x.line) x.outcome) p.answers q.answers p.right q.right;
      texts = subst (Appends out out'') (sym (texts-joined p.answers q.answers)) (Appends-trans out out' out'' _ _ p.texts q.texts);
      refusals = subst (Appends err err'') reports (Appends-trans err err' err'' _ _ p.refusals q.refusals);
      kept = subst (Appends bad bad'') (sym (kept-joined p.answers q.answers)) (Appends-trans bad bad' bad'' _ _ p.kept q.kept);
      texts_counted = omega (arith, sum.0, p.texts_counted, q.texts_counted, texts-added p.answers q.answers);
      refusals_counted = omega (arith, sum.1, p.refusals_counted, q.refusals_counted, refusals-added p.answers q.answers);
    }

-- ---- one way only
same-outcome : (becomes : List ℕ → Seen → Type 0) (line : List ℕ) → IsDecided becomes → (o o' : Option Seen)
    → IsRight becomes line o → IsRight becomes line o' → o ≡ o'
same-outcome becomes line one None None p q = refl
same-outcome becomes line one None (Some o') p q = absurd (q.0 p)
same-outcome becomes line one (Some o) None p q = absurd (p.0 q)
same-outcome becomes line one (Some o) (Some o') p q = ap (λ s. Some s) (one line o o' p.1 q.1)

-- of the same lines the same becomes
same-answers : (becomes : List ℕ → Seen → Type 0) → IsDecided becomes → (xs ys : List Answer)
    → map (λ a. a.line) xs ≡ map (λ a. a.line) ys → All (λ a. IsRight becomes (chomp a.line) a.outcome) xs
    → All (λ a. IsRight becomes (chomp a.line) a.outcome) ys → xs ≡ ys
same-answers becomes one [] [] e p q = refl
same-answers becomes one [] (y ∷ ys) e p q = absurd (cc)
same-answers becomes one (x ∷ xs) [] e p q = absurd (cc)
same-answers becomes one (x ∷ xs) (y ∷ ys) e p q =
    let Right : Answer → Type 0 = λ a. IsRight becomes (chomp a.line) a.outcome in
    let line : x.line ≡ y.line = cc in
    let more : map (λ a. a.line) xs ≡ map (λ a. a.line) ys = cc in
    let outcome = same-outcome becomes (chomp x.line) one x.outcome y.outcome (All-head Right x xs p)
    (subst (λ l. IsRight becomes (chomp l) y.outcome) (sym line) (All-head Right y ys q)) in
    let same : x ≡ y = ap (λ l. record { line = l; outcome = x.outcome }) line
    ∙ ap (λ o. record { line = y.line; outcome = o }) outcome in
    ap (λ z. z ∷ xs) same ∙ ap (λ zs. y ∷ zs) (same-answers becomes one xs ys more (All-tail Right x xs p) (All-tail Right y ys q))

same-known : (xs bs : List ℕ) (a b : Option (List ℕ)) → Appends (Some xs) a bs → Appends (Some xs) b bs → a ≡ b
same-known xs bs None b p q = absurd p
same-known xs bs (Some a) None p q = absurd q
same-known xs bs (Some a) (Some b) p q = ap (λ l. Some l) (p ∙ sym q)

pub log-one : IsOne
log-one becomes name first t counts counts' out err bad x x' y y' z z' one p q =
    let same = same-answers becomes one p.answers q.answers (p.lines ∙ sym q.lines) p.right q.right in (
      same-known out (texts_of p.answers) x x' p.texts (subst (λ answers. Appends (Some out) x' (texts_of answers)) (sym same) q.texts),
      same-known err (refusals_from name first p.answers) y y' p.refusals
          (subst (λ answers. Appends (Some err) y' (refusals_from name first answers)) (sym same) q.refusals),
      same-known bad (kept_from p.answers) z z' p.kept (subst (λ answers. Appends (Some bad) z' (kept_from answers)) (sym same) q.kept),
      (
        p.texts_counted ∙ ap texts_among same ∙ sym q.texts_counted,
        p.refusals_counted ∙ ap refusals_among same ∙ sym q.refusals_counted,
      ),
    )

-- ---- the cut log, and the whole one
pub log-cut : IsCutAnywhere
log-cut becomes name first a b of_a of_b counts out err bad out' out'' err' err'' bad' bad'' x y z one whole p q w =
    let sum : Counts = record { texts = of_a.texts + of_b.texts; refused = of_a.refused + of_b.refused } in
    let joined = log-joined becomes name first a b of_a of_b sum (Some out) out' out'' (Some err) err' err'' (Some bad) bad' bad''
    whole p q (refl, refl) in
    let same = log-one becomes name first (a ++ b) sum counts out err bad out'' x err'' y bad'' z one joined w in
    (same.0, same.1, same.2, (sym same.3.0, sym same.3.1))
