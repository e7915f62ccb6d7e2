-- What is written of parts, one after the other.
use Rattle.std.proofs.Common.{◌≡◌, ◌∙◌, ap, refl, sym, subst, ℕ, ◌+◌, List, [], ◌∷◌, ◌++◌, Option, Some, append_assoc, append-nil}
use Rattle.std.proofs.Common.{arith, map}
use Rattle.std.specs.Io.KnownBytes.{Appends}
use Rattle.std.proofs.KnownBytes.{Appends-nil, Appends-trans}
use Rattle.std.proofs.lemmas.List.{map-append}
use Rattle.std.proofs.lemmas.List.Elements.{All-append, All-nil, All-push}
use Rattle.jiter_print.specs.Written.{AppendsPrefix}
use Rattle.jiter_scan.specs.declared.errors.LinePosition.{LinePosition}
use Rattle.json_lines.specs.Items.{Part, wrong}
use Rattle.json_lines.specs.ItemsWritten.{Answer, IsRight, WritesPartly, WritesParts, kept_from, kept_line, kept_of, refusals_among, report_at, report_of}
use Rattle.json_lines.specs.ItemsWritten.{reports_of, texts_among, texts_of}
use Rattle.json_lines.specs.Line.{Seen, refusal_text, refused}
use Rattle.json_lines.specs.Log.{refusals_in, text_of, texts_in}
use Rattle.json_lines.specs.declared.log.Counts.{Counts}
use Rattle.json_lines.proofs.Lines.{prefix-more}
use Rattle.json_lines.proofs.Known.{no-part}

-- ---- what became of two lists of parts
texts-joined : (xs ys : List Answer) → texts_of (xs ++ ys) ≡ texts_of xs ++ texts_of ys
texts-joined [] ys = refl
texts-joined (x ∷ xs) ys =
    ap (λ l. text_of (Some x.outcome) ++ l) (texts-joined xs ys)
    ∙ sym (append_assoc (text_of (Some x.outcome)) (texts_of xs) (texts_of ys))

kept-joined : (xs ys : List Answer) → kept_from (xs ++ ys) ≡ kept_from xs ++ kept_from ys
kept-joined [] ys = refl
kept-joined (x ∷ xs) ys =
    ap (λ l. kept_of x.part x.outcome ++ l) (kept-joined xs ys)
    ∙ sym (append_assoc (kept_of x.part x.outcome) (kept_from xs) (kept_from ys))

texts-added : (xs ys : List Answer) → texts_among (xs ++ ys) ≡ texts_among xs + texts_among ys
texts-added [] ys = omega (arith)
texts-added (x ∷ xs) ys = omega (arith, texts-added xs ys)

refusals-added : (xs ys : List Answer) → refusals_among (xs ++ ys) ≡ refusals_among xs + refusals_among ys
refusals-added [] ys = omega (arith)
refusals-added (x ∷ xs) ys = omega (arith, refusals-added xs ys)

module _ (becomes : List ℕ → Seen → Type 0) (name : List ℕ) (at : ℕ → LinePosition) where
  reports-joined : (xs ys : List Answer) → reports_of name at (xs ++ ys) ≡ reports_of name at xs ++ reports_of name at ys
  reports-joined [] ys = refl
  reports-joined (x ∷ xs) ys =
      ap (λ l. report_of name at x.part x.outcome ++ l) (reports-joined xs ys)
      ∙ sym (append_assoc (report_of name at x.part x.outcome) (reports_of name at xs) (reports_of name at ys))

  -- ---- the same parts
  pub parts-as : (ps qs : List Part) → ps ≡ qs → {counts : Counts} {out out' err err' bad bad' : Option (List ℕ)}
      → WritesParts becomes name at ps counts out out' err err' bad bad' → WritesParts becomes name at qs counts out out' err err' bad bad'
  parts-as ps qs is {counts} {out} {out'} {err} {err'} {bad} {bad'} = subst (λ x. WritesParts becomes name at x counts out out' err err' bad bad') is

  pub partly-as : (ps qs : List Part) → ps ≡ qs → {out out' err err' bad bad' : Option (List ℕ)}
      → WritesPartly becomes name at ps out out' err err' bad bad' → WritesPartly becomes name at qs out out' err err' bad bad'
  partly-as ps qs is {out} {out'} {err} {err'} {bad} {bad'} = subst (λ x. WritesPartly becomes name at x out out' err err' bad bad') is

  -- ---- no part, and one
  pub wrote-none : (counts : Counts) (out err bad : Option (List ℕ)) → counts.texts ≡ 0 → counts.refused ≡ 0
      → WritesParts becomes name at [] counts out out err err bad bad
  wrote-none counts out err bad no-texts none-refused = record {
    answers = [];
    parts = refl;
    right = All-nil (λ a. IsRight becomes a.part a.outcome);
    texts = Appends-nil out;
    reports = Appends-nil err;
    kept = Appends-nil bad;
    texts_counted = no-texts;
    refusals_counted = none-refused;
  }

  pub wrote-nothing : (ps : List Part) (out err bad : Option (List ℕ)) → WritesPartly becomes name at ps out out err err bad bad
  wrote-nothing ps out err bad = record {
    answers = [];
    others = ps;
    parts = refl;
    right = All-nil (λ a. IsRight becomes a.part a.outcome);
    texts = no-part out [];
    reports = no-part err [];
    kept = no-part bad [];
  }

  module _ (p : Part) (o : Seen) (right : IsRight becomes p o) (out out' err err' bad bad' : Option (List ℕ)) where
    abbrev answer : Answer
    answer = record { part = p; outcome = o }

    pub wrote-one : (counts : Counts) → counts.texts ≡ texts_in (Some o) → counts.refused ≡ refusals_in (Some o)
        → Appends out out' (text_of (Some o)) → Appends err err' (report_of name at p o) → Appends bad bad' (kept_of p o)
        → WritesParts becomes name at (p ∷ []) counts out out' err err' bad bad'
    wrote-one counts texts refusals text report kept = record {
      answers = answer ∷ [];
      parts = refl;
      right = All-push (λ a. IsRight becomes a.part a.outcome) [] answer (All-nil (λ a. IsRight becomes a.part a.outcome)) right;
      texts = subst (Appends out out') (sym (append-nil (text_of (Some o)))) text;
      reports = subst (Appends err err') (sym (append-nil (report_of name at p o))) report;
      kept = subst (Appends bad bad') (sym (append-nil (kept_of p o))) kept;
      texts_counted = omega (arith, texts);
      refusals_counted = omega (arith, refusals);
    }

    pub wrote-one-partly : AppendsPrefix out out' (text_of (Some o)) → AppendsPrefix err err' (report_of name at p o)
        → AppendsPrefix bad bad' (kept_of p o) → WritesPartly becomes name at (p ∷ []) out out' err err' bad bad'
    wrote-one-partly text report kept = record {
      answers = answer ∷ [];
      others = [];
      parts = refl;
      right = All-push (λ a. IsRight becomes a.part a.outcome) [] answer (All-nil (λ a. IsRight becomes a.part a.outcome)) right;
      texts = subst (AppendsPrefix out out') (sym (append-nil (text_of (Some o)))) text;
      reports = subst (AppendsPrefix err err') (sym (append-nil (report_of name at p o))) report;
      kept = subst (AppendsPrefix bad bad') (sym (append-nil (kept_of p o))) kept;
    }

  -- ---- an error of the array itself
  module _ (i : ℕ) (cause kept : List ℕ) (there : LinePosition) (is : there ≡ at i) (out err err' bad bad' : Option (List ℕ)) where
    pub wrote-wrong : (counts : Counts) → counts.texts ≡ 0 → counts.refused ≡ 1
        → Appends err err' (refusal_text name there.line there.column cause) → Appends bad bad' (kept_line kept)
        → WritesParts becomes name at (wrong i cause kept ∷ []) counts out out err err' bad bad'
    wrote-wrong counts texts refusals report line =
        wrote-one (wrong i cause kept) (refused 1 cause) refl out out err err' bad bad' counts texts refusals (Appends-nil out)
        (subst (λ p. Appends err err' (report_at name p cause)) is report) line

    pub wrote-wrong-partly : AppendsPrefix err err' (refusal_text name there.line there.column cause)
        → AppendsPrefix bad bad' (kept_line kept) → WritesPartly becomes name at (wrong i cause kept ∷ []) out out err err' bad bad'
    wrote-wrong-partly report line =
        wrote-one-partly (wrong i cause kept) (refused 1 cause) refl out out err err' bad bad' (no-part out [])
        (subst (λ p. AppendsPrefix err err' (report_at name p cause)) is report) line

  -- ---- parts, and others after them
  module _ (ps qs : List Part) (counts : Counts) (out out' err err' bad bad' : Option (List ℕ))
      (h : WritesParts becomes name at ps counts out out' err err' bad bad') (out'' err'' bad'' : Option (List ℕ)) where
    pub wrote-both : (counts' counts'' : Counts) → WritesParts becomes name at qs counts' out' out'' err' err'' bad' bad''
        → counts''.texts ≡ counts.texts + counts'.texts → counts''.refused ≡ counts.refused + counts'.refused
        → WritesParts becomes name at (ps ++ qs) counts'' out out'' err err'' bad bad''
    wrote-both counts' counts'' k texts refusals = record {
      answers = h.answers ++ k.answers;
      parts = map-append (λ a. a.part) h.answers k.answers ∙ ap (λ l. l ++ map (λ a. a.part) k.answers) h.parts
          ∙ ap (λ l. ps ++ l) k.parts;
      right = All-append (λ a. IsRight becomes a.part a.outcome) h.answers k.answers h.right k.right;
      texts = subst (Appends out out'') (sym (texts-joined h.answers k.answers)) (Appends-trans out out' out'' _ _ h.texts k.texts);
      reports = subst (Appends err err'') (sym (reports-joined h.answers k.answers))
          (Appends-trans err err' err'' _ _ h.reports k.reports);
      kept = subst (Appends bad bad'') (sym (kept-joined h.answers k.answers)) (Appends-trans bad bad' bad'' _ _ h.kept k.kept);
      texts_counted = omega (arith, texts, h.texts_counted, k.texts_counted, texts-added h.answers k.answers);
      refusals_counted = omega (arith, refusals, h.refusals_counted, k.refusals_counted, refusals-added h.answers k.answers);
    }

    pub wrote-then-partly : WritesPartly becomes name at qs out' out'' err' err'' bad' bad''
        → WritesPartly becomes name at (ps ++ qs) out out'' err err'' bad bad''
    wrote-then-partly k = record {
      answers = h.answers ++ k.answers;
      others = k.others;
      parts = ap (λ l. l ++ k.others) (map-append (λ a. a.part) h.answers k.answers)
          ∙ append_assoc (map (λ a. a.part) h.answers) (map (λ a. a.part) k.answers) k.others
          ∙ ap (λ l. l ++ (map (λ a. a.part) k.answers ++ k.others)) h.parts ∙ ap (λ l. ps ++ l) k.parts;
      right = All-append (λ a. IsRight becomes a.part a.outcome) h.answers k.answers h.right k.right;
      texts = prefix-more out out' out'' _ _ _ h.texts k.texts (sym (texts-joined h.answers k.answers));
      reports = prefix-more err err' err'' _ _ _ h.reports k.reports (sym (reports-joined h.answers k.answers));
      kept = prefix-more bad bad' bad'' _ _ _ h.kept k.kept (sym (kept-joined h.answers k.answers));
    }

  pub wrote-partly-more : (ps qs : List Part) (out out' err err' bad bad' : Option (List ℕ))
      → WritesPartly becomes name at ps out out' err err' bad bad' → WritesPartly becomes name at (ps ++ qs) out out' err err' bad bad'
  wrote-partly-more ps qs out out' err err' bad bad' h = record {
    answers = h.answers;
    others = h.others ++ qs;
    parts = sym (append_assoc (map (λ a. a.part) h.answers) h.others qs) ∙ ap (λ l. l ++ qs) h.parts;
    right = h.right;
    texts = h.texts;
    reports = h.reports;
    kept = h.kept;
  }
