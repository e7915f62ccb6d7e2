-- An array that is read item by item is written value by value, and of every other input something is reported.
use Rattle.std.proofs.Common.{◌≡◌, ◌∙◌, ap₂, refl, sym, subst, ℕ, ◌+◌, Bool, List, [], ◌∷◌, ◌++◌, Some, arith, map}
use Rattle.std.specs.List.{All}
use Rattle.std.specs.Io.KnownBytes.{Appends}
use Rattle.std.proofs.lemmas.List.Elements.{All-head, All-tail}
use Rattle.jiter_scan.specs.declared.errors.LinePosition.{LinePosition}
use Rattle.jiter_steps.specs.Tree.{Items, Tree}
use Rattle.jiter_steps.specs.Tree as tree
use Rattle.json_lines.specs.ArrayWritten.{IsArrayWritten, IsOtherReported, WritesValues, count_of_values, texts_of_values}
use Rattle.json_lines.specs.Cut.{IsDecided}
use Rattle.json_lines.specs.Items.{Part, item, wrong}
use Rattle.json_lines.specs.ItemsLaw.{AreDocuments, AreItems}
use Rattle.json_lines.specs.ItemsWritten.{Answer, IsRight, kept_from, kept_of, position_at, refusals_among, report_of, reports_of, texts_among, texts_of}
use Rattle.json_lines.specs.Line.{Seen, refused, written}
use Rattle.json_lines.specs.Log.{refusals_in, text_of, texts_in}
use Rattle.json_lines.proofs.ItemsLaw.{itemwise, of-arrays-only}

-- ---- an array
module _ (becomes : List ℕ → Seen → Type 0) (names : Bool) (text : Tree → List ℕ) (one : IsDecided becomes)
    (write : WritesValues names text becomes) (name : List ℕ) (at : ℕ → LinePosition) where
  -- what becomes of the first of these parts
  record FirstWritten (o : Seen) (ps : List Part) (values : Items) : Type 0 where
    value : Tree
    others : Items
    all : values ≡ tree.item value others
    is : o ≡ written (text value)
    more : AreDocuments names ps others

  first-written : (part : Part) (o : Seen) (ps : List Part) (values : Items) → IsRight becomes part o
      → AreDocuments names (part ∷ ps) values → FirstWritten o ps values
  first-written (item i bytes) o ps tree.no_items right h = absurd h
  first-written (item i bytes) o ps (tree.item v vs) right h = record {
    value = v;
    others = vs;
    all = refl;
    is = one bytes o (written (text v)) right
        (subst (λ x. becomes bytes (written (text x))) h.0.2 (write bytes h.0.0 h.0.1));
    more = h.1;
  }
  first-written (wrong i cause kept) o ps values right h = absurd h

  record AllWritten (answers : List Answer) (values : Items) : Type 0 where
    texts : texts_of answers ≡ texts_of_values text values
    reports : reports_of name at answers ≡ []
    kept : kept_from answers ≡ []
    counted : texts_among answers ≡ count_of_values values
    none : refusals_among answers ≡ 0

  -- one more, whose outcome is known
  one-written : (a : Answer) (answers : List Answer) (v : Tree) (vs : Items) → a.outcome ≡ written (text v)
      → AllWritten answers vs → AllWritten (a ∷ answers) (tree.item v vs)
  one-written a answers v vs is h = record {
    texts = ap₂ (λ o l. text_of (Some o) ++ l) is h.texts;
    reports = ap₂ (λ o l. report_of name at a.part o ++ l) is h.reports;
    kept = ap₂ (λ o l. kept_of a.part o ++ l) is h.kept;
    counted = ap₂ (λ o n. texts_in (Some o) + n) is h.counted;
    none = ap₂ (λ o n. refusals_in (Some o) + n) is h.none;
  }

  all-written : (answers : List Answer) (values : Items) → All (λ a. IsRight becomes a.part a.outcome) answers
      → AreDocuments names (map (λ a. a.part) answers) values → AllWritten answers values
  all-written [] tree.no_items right h =
      record { texts = refl; reports = refl; kept = refl; counted = refl; none = refl }
  all-written [] (tree.item v vs) right h = absurd h
  all-written (a ∷ answers) values right h =
      let Right : Answer → Type 0 = λ a. IsRight becomes a.part a.outcome in
      let x = first-written a.part a.outcome (map (λ a. a.part) answers) values (All-head Right a answers right) h in
      subst (AllWritten (a ∷ answers)) (sym x.all)
      (one-written a answers x.value x.others x.is
      (all-written answers x.others (All-tail Right a answers right) x.more))

pub array-written : IsArrayWritten
array-written becomes names text name first t values counts out out' err err' bad bad' one write array w =
    let docs = subst (λ ps. AreDocuments names ps values) (sym w.parts) ((itemwise names t values).0 array) in
    let x = all-written becomes names text one write name (position_at first t) w.answers values w.right docs in
    record {
      texts = subst (Appends out out') x.texts w.texts;
      reports = subst (Appends err err') x.reports w.reports;
      kept = subst (Appends bad bad') x.kept w.kept;
      texts_counted = w.texts_counted ∙ x.counted;
      refusals_counted = w.refusals_counted ∙ x.none;
    }

-- ---- no error
module _ (becomes : List ℕ → Seen → Type 0) where
  -- these bytes become a text
  abbrev IsText : List ℕ → Type 0
  IsText bytes = (text : List ℕ) × becomes bytes (written text)

  no-error : (part : Part) (o : Seen) (ps : List Part) → IsRight becomes part o → refusals_in (Some o) ≡ 0
      → AreItems IsText ps → AreItems IsText (part ∷ ps)
  no-error (item i bytes) (written text) ps right none h = ((text, right), h)
  no-error (item i bytes) (refused column cause) ps right none h = absurd (omega (arith, none))
  no-error (wrong i cause kept) (written text) ps right none h = absurd (cc)
  no-error (wrong i cause kept) (refused column other) ps right none h = absurd (omega (arith, none))

  no-errors : (answers : List Answer) → All (λ a. IsRight becomes a.part a.outcome) answers → refusals_among answers ≡ 0
      → AreItems IsText (map (λ a. a.part) answers)
  no-errors [] right none = tt
  no-errors (a ∷ answers) right none =
      let Right : Answer → Type 0 = λ a. IsRight becomes a.part a.outcome in
      no-error a.part a.outcome (map (λ a. a.part) answers) (All-head Right a answers right) (omega (arith, none))
      (no-errors answers (All-tail Right a answers right) (omega (arith, none)))

pub other-reported : IsOtherReported
other-reported becomes names name first t counts out out' err err' bad bad' documents w none =
    of-arrays-only (IsText becomes) names t (λ bytes x. documents bytes x.0 x.1)
    (subst (AreItems (IsText becomes)) w.parts (no-errors becomes w.answers w.right (sym w.refusals_counted ∙ none)))
