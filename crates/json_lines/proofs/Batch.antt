-- Texts that are collected and then written, where the bytes of the writer are known, or not.
use Rattle.std.proofs.Common.{◌≡◌, ◌∙◌, ap, refl, sym, subst, take, drop, length, append-nil, append_assoc, take-append-drop, ℕ, List, []}
use Rattle.std.proofs.Common.{◌∷◌, ◌++◌, Option, Some, None, IfSome}
use Rattle.std.proofs.Math.Seq.{take-append_seam}
use Rattle.std.proofs.lemmas.List.{append_cancel_left}
use Rattle.std.proofs.lemmas.Option.{IfSome_then}
use Rattle.std.specs.Io.KnownBytes.{Appends, Keeps, append_known}
use Rattle.std.proofs.KnownBytes.{Appends-kept, Appends-nil, Appends-trans, Keeps-refl, append_known-grown, append_known-moved}
use Rattle.jiter_print.specs.Written.{AppendsPrefix}
use Rattle.json_lines.specs.Line.{Seen}
use Rattle.json_lines.specs.Log.{Grows, WritesAll, WritesPart}
use Rattle.json_lines.specs.declared.log.Counts.{Counts}
use Rattle.json_lines.proofs.Known.{Known}
use Rattle.json_lines.proofs.Lines.{whole-part}

pub grows-not : (a : Option (List ℕ)) → Grows a a
grows-not a = ([], Appends-nil a)

pub grows-more : (a b c : Option (List ℕ)) → Grows a b → Grows b c → Grows a c
grows-more a b c p q = (p.0 ++ q.0, Appends-trans a b c p.0 q.0 p.1 q.1)

pub grows-by : (a b : Option (List ℕ)) (bs : List ℕ) → AppendsPrefix a b bs → Grows a b
grows-by a b bs p = (take p.0 bs, p.1)

-- a batch of no texts
pub held-none : (a : Option (List ℕ)) (batch : List ℕ) → batch ≡ [] → Keeps a (append_known a batch)
held-none None batch none = tt
held-none (Some x) batch none = ap (λ l. x ++ l) none ∙ append-nil x

-- a text more is collected
pub pushed : (a : Option (List ℕ)) (old new bs : List ℕ) → new ≡ old ++ bs → Appends (append_known a old) (append_known a new) bs
pushed a old new bs is = append_known-grown (append_known a old) a old new bs (Keeps-refl (append_known a old)) is

-- the batch is written
pub flushed : (a b : Option (List ℕ)) (batch after : List ℕ) → Appends a b batch → after ≡ [] → Keeps (append_known a batch) (append_known b after)
flushed a b batch after more none =
    append_known-moved a b batch after batch more (sym (ap (λ l. batch ++ l) none ∙ append-nil batch))

pub flushed-out : (a b : Option (List ℕ)) (batch : List ℕ) → Appends a b batch → Keeps (append_known a batch) b
flushed-out None b batch more = tt
flushed-out (Some x) None batch more = absurd more
flushed-out (Some x) (Some y) batch more = more

-- a prefix of it is
pub torn : (a b c : Option (List ℕ)) (batch all : List ℕ) → Grows a b → AppendsPrefix a (append_known b batch) all
    → AppendsPrefix b c batch → AppendsPrefix a c all
torn None b c batch all p q r = (0, tt)
torn (Some x) None c batch all p q r = absurd p.1
torn (Some x) (Some y) None batch all p q r = absurd r.1
torn (Some x) (Some y) (Some z) batch all p q r =
    let head = p.0 ++ take r.0 batch in
    let left = drop r.0 batch ++ drop q.0 all in
    let front : take q.0 all ≡ p.0 ++ batch =
    append_cancel_left x _ _ (sym q.1 ∙ ap (λ l. l ++ batch) p.1 ∙ append_assoc x p.0 batch) in
    let whole : all ≡ head ++ left =
    sym (take-append-drop q.0 all) ∙ ap (λ l. l ++ drop q.0 all) (front ∙ ap (λ l. p.0 ++ l) (sym (take-append-drop r.0 batch))
    ∙ sym (append_assoc p.0 (take r.0 batch) (drop r.0 batch)))
    ∙ append_assoc head (drop r.0 batch) (drop q.0 all) in
    let is : z ≡ x ++ head = r.1 ∙ ap (λ l. l ++ take r.0 batch) p.1 ∙ append_assoc x p.0 (take r.0 batch) in
    (length head, is ∙ ap (λ l. x ++ l) (sym (ap (take (length head)) whole ∙ take-append_seam head left)))

module _ (becomes : List ℕ → Seen → Type 0) (name : List ℕ) (first : ℕ) (from out err err' bad bad' : Option (List ℕ)) where
  -- the texts are kept where they are
  pub known-kept : (from' : Option (List ℕ)) (number : ℕ) (counts : Counts) (out' out'' : Option (List ℕ))
      → Known becomes name first from from' number counts out out' err err' bad bad' → Keeps out' out''
      → Known becomes name first from from' number counts out out'' err err' bad bad'
  known-kept from' number counts out' out'' h same = IfSome_then from h (λ t x. (
    x.0,
    x.1,
    record {
      answers = x.2.answers;
      lines = x.2.lines;
      right = x.2.right;
      texts = Appends-kept out out' out'' _ x.2.texts same;
      refusals = x.2.refusals;
      kept = x.2.kept;
      texts_counted = x.2.texts_counted;
      refusals_counted = x.2.refusals_counted;
      numbered = x.2.numbered;
    },
  ))

  pub all-kept : (counts : Counts) (out' out'' : Option (List ℕ))
      → IfSome from (λ t. WritesAll becomes name first t counts out out' err err' bad bad') → Keeps out' out''
      → IfSome from (λ t. WritesAll becomes name first t counts out out'' err err' bad bad')
  all-kept counts out' out'' h same = IfSome_then from h (λ t x. record {
    answers = x.answers;
    lines = x.lines;
    right = x.right;
    texts = Appends-kept out out' out'' _ x.texts same;
    refusals = x.refusals;
    kept = x.kept;
    texts_counted = x.texts_counted;
    refusals_counted = x.refusals_counted;
  })

  -- all is a part
  pub all-part : (counts : Counts) (out' : Option (List ℕ))
      → IfSome from (λ t. WritesAll becomes name first t counts out out' err err' bad bad')
      → IfSome from (λ t. WritesPart becomes name first t out out' err err' bad bad')
  all-part counts out' h = IfSome_then from h (λ t x. record {
    answers = x.answers;
    others = [];
    lines = append-nil _ ∙ x.lines;
    right = x.right;
    texts = whole-part out out' _ x.texts;
    refusals = whole-part err err' _ x.refusals;
    kept = whole-part bad bad' _ x.kept;
  })

  -- a prefix of the batch is written, or all of it
  pub part-torn : (out' out'' : Option (List ℕ)) (batch : List ℕ)
      → IfSome from (λ t. WritesPart becomes name first t out (append_known out' batch) err err' bad bad')
      → Grows out out' → AppendsPrefix out' out'' batch
      → IfSome from (λ t. WritesPart becomes name first t out out'' err err' bad bad')
  part-torn out' out'' batch h grows part = IfSome_then from h (λ t x. record {
    answers = x.answers;
    others = x.others;
    lines = x.lines;
    right = x.right;
    texts = torn out out' out'' batch _ grows x.texts part;
    refusals = x.refusals;
    kept = x.kept;
  })

  -- the same, as long as nothing is collected after it
  pub part-held : (out' : Option (List ℕ)) (batch : List ℕ) → batch ≡ []
      → IfSome from (λ t. WritesPart becomes name first t out out' err err' bad bad')
      → IfSome from (λ t. WritesPart becomes name first t out (append_known out' batch) err err' bad bad')
  part-held out' batch none h = IfSome_then from h (λ t x. record {
    answers = x.answers;
    others = x.others;
    lines = x.lines;
    right = x.right;
    texts = (x.texts.0, Appends-kept out out' _ _ x.texts.1 (held-none out' batch none));
    refusals = x.refusals;
    kept = x.kept;
  })
