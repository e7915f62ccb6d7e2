-- What the bytes of a document answer that have arrived so far, if the input ends after them.
use Rattle.jiter_incremental.proofs.Words.{◌≡◌, ℕ, ◌+◌, ◌-◌, ◌<◌, ◌≤◌, ◌==◌, Bool, true, false, List, [], ◌∷◌, ◌++◌}
use Rattle.jiter_incremental.proofs.Words.{length, refl, eqb-true, inl, sym, subst, ap, ◌∙◌, arith, get_or, slice_get}
use Rattle.jiter_incremental.proofs.Words.{Option, Some, None, if◌then◌else◌, string_bytes, append-nil, slice_get_past}
use Rattle.jiter_incremental.proofs.Words.{slice_get_within, get_or_from_slice_get, none-some, same_Some, ◌&&◌, ◌||◌}
use Rattle.jiter_incremental.proofs.Words.{is_some, not, option_map, false≢true, if-true, if-false, Kind, fault_kind}
use Rattle.jiter_incremental.proofs.Words.{is_forgiven, eof_object, eof_value, is_active, Stands, Fault, slice-stands}
use Rattle.jiter_incremental.proofs.Words.{invalid_code_point, span_then, number_span, is_whole}
use Rattle.jiter_incremental.proofs.Words.{allows_trailing_strings, failed, FaultKind, Span, is_blank, past_blanks}
use Rattle.jiter_incremental.proofs.Words.{items_frame, members_frame, resume, value_in, value_from, key_from, start_of}
use Rattle.jiter_incremental.proofs.Words.{done, fault, prefix_answer, whole_answer, to_end, if_last, container_step}
use Rattle.jiter_incremental.proofs.Words.{step, end_kind_of, comma_kind_of, Text, Tree, array, object, items_of}
use Rattle.jiter_incremental.proofs.Words.{members_of, ContainerKind, Start, past_blanks-other, past_blanks-end}
use Rattle.jiter_incremental.proofs.Words.{resume-fault, if_forgiven-yes, key-failed, ended, inside_at-starts}
use Rattle.jiter_incremental.proofs.Words.{nothing_forgiven, seen_as, value_form, text_or, scalar_at, content_at, kept}
use Rattle.jiter_incremental.proofs.Words.{text_form, whole, string, colon, value_first, Arrived, at_end, at_value}
use Rattle.jiter_incremental.proofs.Words.{between_parts, end_of, leads_on, owned, shown, value_then, IsScalarStart}
use Rattle.jiter_incremental.proofs.Words.{after_value, text_of, BeginsAs, Document, EndsRight, HasTakenAll, HoldsOpened}
use Rattle.jiter_incremental.proofs.Words.{HoldsScalar, HoldsString, IsAllowed, Opened, ReadsAt, TakenFrom}
use Rattle.jiter_incremental.proofs.Words.{between_tokens, in_key, in_scalar, opened_to, shown_as, strictly, token_tree}
use Rattle.jiter_incremental.proofs.Words.{AnswersSo, IsEndFault, KeepsText, broken_as, is_broken, kind_at_end, so_far}
use Rattle.jiter_incremental.proofs.Words.{name_start, OpenFrame, begun, filled, IsOfString, answer_as, rules_as, built}
use Rattle.jiter_incremental.proofs.Words.{Settings, Awaits, owned_text, WordValue, Token, rules_as-advances}
use Rattle.jiter_scan.specs.Kind.{eof_string}
use Rattle.jiter_scan.proofs.OpenNumbers.{ended as number-ended}
use Rattle.jiter_scan.proofs.WordLaws.{word_at-cut}
use Rattle.jiter_scan.specs.PartialNumber.{at_end as ended_so}
use Rattle.jiter_scan.specs.Scanned.{Scanned}
use Rattle.jiter_scan.specs.declared.errors.FaultKind.TheVariants as fault_of
use Rattle.jiter_steps.specs.declared.parse.ContainerKind.TheVariants as shape
use Rattle.jiter_steps.specs.declared.parse.Start.TheVariants as start
use Rattle.jiter_steps.specs.Read.{if_forgiven}
use Rattle.jiter_incremental.specs.Ends.{kind_as}
use Rattle.jiter_incremental.specs.declared.reader.Awaits.TheVariants as awaits
use Rattle.jiter_incremental.specs.declared.names.WordValue.TheVariants as name
use Rattle.jiter_incremental.specs.declared.reader.Token.TheVariants as token
use Rattle.jiter_incremental.proofs.Arrivals.{Sticks, all-close, fault-closes, led-answers, led-end, off-answers}
use Rattle.jiter_incremental.proofs.Between.{scalar-read}
use Rattle.jiter_incremental.proofs.Documents.{ends-after, prefix-fault}
use Rattle.jiter_incremental.proofs.Documents.Strings.{begin_of, is-held, is-placed, text-low}
use Rattle.jiter_incremental.proofs.Documents.Tokens.{held-end, held-stands, number-done, number-failed, word-failed}

-- A byte that begins a scalar is neither whitespace, a comma nor a closer.
not-such : (c d : ℕ) → IsScalarStart (start_of c) → (IsScalarStart (start_of d) → ⊥) → (c == d) ≡ false
not-such c d h other = by (c == d) refl where
  by : (b : Bool) → (c == d) ≡ b → (c == d) ≡ false
  by false is = is
  by true is = let same : c ≡ d = eqb-true c d is in absurd (other (subst (λ x. IsScalarStart (start_of x)) same h))

pub no-blank : (c : ℕ) → IsScalarStart (start_of c) → is_blank c ≡ false
no-blank c h =
    rw (not-such c 32 h (λ x. x)) rw (not-such c 9 h (λ x. x)) rw (not-such c 10 h (λ x. x)) rw (not-such c 13 h (λ x. x))
    refl

-- So each open container sticks at such a byte.
pub sticks-scalar : (t : List ℕ) (j c : ℕ) → slice_get t j ≡ Some c → IsScalarStart (start_of c) → Sticks t j
sticks-scalar t j c here h = by where
  lt : j < length t
  lt = slice_get_within t j c here

  other : is_blank (get_or t j 0) ≡ false
  other = ap is_blank (get_or_from_slice_get t j c 0 here) ∙ no-blank c h

  at : (s : ContainerKind) → step t (container_step s t) j ≡ container_step s t j (Some c)
  at s = ap (λ m. container_step s t m (slice_get t m)) (past_blanks-other t j lt other)
      ∙ ap (container_step s t j) here

  by : Sticks t j
  by shape.Array = (
    comma_kind_of shape.Array,
    at shape.Array ∙ if-false (c == 93) _ _ (not-such c 93 h (λ x. x)) ∙ if-false (c == 44) _ _ (not-such c 44 h (λ x. x)),
    refl,
  )
  by shape.Object = (
    comma_kind_of shape.Object,
    at shape.Object ∙ if-false (c == 125) _ _ (not-such c 125 h (λ x. x)) ∙ if-false (c == 44) _ _ (not-such c 44 h (λ x. x)),
    refl,
  )

-- In a partial mode, a scalar that begins at such a byte and is no value where the input ends is dropped.
pub dropped-answers : (p : Settings) (t : List ℕ) (f : OpenFrame) (fs : List OpenFrame) (b c : ℕ) (k : Kind) (i : ℕ)
    → is_active p.mode ≡ true → slice_get t b ≡ Some c → IsScalarStart (start_of c)
    → value_in (rules_as owned p) t (length (f ∷ fs)) b ≡ fault k i b → is_forgiven k ≡ true
    → prefix_answer (rules_as owned p) t ≡ value_from (rules_as owned p) t (f ∷ fs) b
    → answer_as owned p t ≡ done (filled fs (begun f)) b
dropped-answers p t f fs b c k i on here starts read ok led =
    let r = rules_as owned p in
    if-true (is_active p.mode) (prefix_answer r t) (whole_answer r t) on ∙ led ∙ ap (resume r t (f ∷ fs)) read
    ∙ fault-closes p t on b (sticks-scalar t b c here starts) f fs k i ok

-- An error that is not forgiven, or where nothing is, is the answer.
pub fault-answers : (p : Settings) (t : List ℕ) (fs : List OpenFrame) (b : ℕ) (k : Kind) (i stop : ℕ)
    → (rules_as owned p).forgives k ≡ false
    → value_in (rules_as owned p) t (length fs) b ≡ fault k i stop
    → prefix_answer (rules_as owned p) t ≡ value_from (rules_as owned p) t fs b
    → prefix_answer (rules_as owned p) t ≡ fault k i stop
fault-answers p t fs b k i stop bad read led =
    let r = rules_as owned p in led ∙ ap (resume r t fs) read ∙ resume-fault r t fs k i stop bad

-- outside all containers too
pub root-answers : (p : Settings) (t : List ℕ) (b : ℕ) (k : Kind) (i stop : ℕ)
    → value_in (rules_as owned p) t 0 b ≡ fault k i stop
    → prefix_answer (rules_as owned p) t ≡ value_from (rules_as owned p) t [] b
    → prefix_answer (rules_as owned p) t ≡ fault k i stop
root-answers p t b k i stop read led = led ∙ read

-- a scalar that is a value where the input ends leads on after it
pub value-led : (p : Settings) (t : List ℕ) (fs : List OpenFrame) (b : ℕ) (v : Tree)
    → value_in (rules_as owned p) t (length fs) b ≡ done v (length t)
    → prefix_answer (rules_as owned p) t ≡ value_from (rules_as owned p) t fs b
    → prefix_answer (rules_as owned p) t ≡ leads_on (rules_as owned p) t (after_value v fs) (length t)
value-led p t fs b v read led = led ∙ scalar-read v p t b (length t) fs read

-- With partial reading off a value that is whole is the answer.
pub whole-answers : (p : Settings) (t : List ℕ) (v : Tree) (n : ℕ) → is_active p.mode ≡ false
    → EndsRight t (between_tokens (at_end v n))
    → prefix_answer (rules_as owned p) t ≡ leads_on (rules_as owned p) t (at_end v n) (length t)
    → answer_as owned p t ≡ done v (length t - n)
whole-answers p t v n off ends led =
    let r = rules_as owned p in
    let j : past_blanks t (length t - n) ≡ length t =
    subst (λ w. past_blanks w (length t - n) ≡ past_blanks w (length t)) (append-nil t) (ends.1 [])
    ∙ past_blanks-end t (length t) (omega arith) in
    off-answers p t off ∙ ap (to_end t) led
    ∙ ap (λ m. if_last v (length t - n) m (slice_get t m)) j
    ∙ ap (if_last v (length t - n) (length t)) (slice_get_past t (length t) (omega arith))

-- ---- what the scalar or the key that is unfinished is read as, where the input ends

-- a step is decided by the end there
step-past : {A : Type 0} (t : List ℕ) (row : ℕ → Option ℕ → A) → step t row (length t) ≡ row (length t) None
step-past t row =
    let past : length t ≤ length t = omega arith in
    ap (λ m. row m (slice_get t m)) (past_blanks-end t (length t) past)
    ∙ ap (row (length t)) (slice_get_past t (length t) past)

-- A scalar that begins at b is cut there, or has this error.
pub record CutAt (p : Settings) (t : List ℕ) (depth b : ℕ) (k : Kind) (i : ℕ) : Type 0 where
  pub byte : ℕ
  pub here : slice_get t b ≡ Some byte
  pub starts : IsScalarStart (start_of byte)
  pub read : value_in (rules_as owned p) t depth b ≡ fault k i b

allowed-so : (p q : Settings) (k : WordValue) → p.allow_inf_nan ≡ q.allow_inf_nan → IsAllowed q k → IsAllowed p k
allowed-so p q (name.Literal l) same h = tt
allowed-so p q name.NaN same h = same ∙ h
allowed-so p q name.Infinity same h = same ∙ h
allowed-so p q name.MinusInfinity same h = same ∙ h

pub name-starts : (k : WordValue) → IsScalarStart (name_start k)
name-starts (name.Literal l) = tt
name-starts other = tt

module _ (d : Document) (t : List ℕ) (b : ℕ) (w : List ℕ) (from : TakenFrom d t b w) where
  all-stand : Stands t b (b + length w) w
  all-stand =
      subst (λ v. Stands v b (b + length w) w) (append-nil t) (held-stands from.prefix w t b from.is from.begin [])

  at-end : b + length w ≡ length t
  at-end = held-end from.prefix w t b from.is from.begin

  none-there : slice_get t (b + length w) ≡ None
  none-there = slice_get_past t (b + length w) (omega (arith, at-end))

  first-there : (s : Start) → (x : BeginsAs w s) → slice_get t b ≡ Some x.first
  first-there s x = (subst (λ v. Stands t b (b + length w) v) x.is all-stand).0

  module _ (p : Settings) (names : p.allow_inf_nan ≡ d.settings.allow_inf_nan) (depth : ℕ) (few : depth ≤ 200) where
    word-cut : HoldsScalar d token.Word w → CutAt p t depth b eof_value (length t)
    word-cut h = record {
      byte = h.2.first;
      here = first-there _ h.2;
      starts = subst IsScalarStart (sym h.2.starts) (name-starts d.name);
      read = word-failed p t depth b h.2.first few (first-there _ h.2) d.name eof_value (length t) h.2.starts
          (allowed-so p d.settings d.name names h.1)
          (h.0.goes t b all-stand
          ∙ word_at-cut t d.word.word.now d.word.seen (b + length w) d.word.within none-there
          ∙ ap (failed eof_value) at-end);
    }

    number-span : HoldsScalar d token.Number w → (all : Bool) → is_whole d.number.stage ≡ all
        → number_span p.allow_inf_nan t b ≡ ended_so all (length t)
    number-span h all is =
        h.0.goes p.allow_inf_nan t b all-stand
        ∙ number-ended t (b + length w) none-there p.allow_inf_nan d.number.stage
        ∙ ap (λ x. ended_so x (b + length w)) is ∙ ap (ended_so all) at-end

    number-cut : HoldsScalar d token.Number w → is_whole d.number.stage ≡ false → CutAt p t depth b eof_value (length t)
    number-cut h is = record {
      byte = h.1.first;
      here = first-there _ h.1;
      starts = subst IsScalarStart (sym h.1.starts) tt;
      read = number-failed p t depth b h.1.first few (first-there _ h.1) eof_value (length t) h.1.starts
          (number-span h false is);
    }

    number-read : HoldsScalar d token.Number w → is_whole d.number.stage ≡ true
        → value_in (rules_as owned p) t depth b ≡ done (token_tree d token.Number) (length t)
    number-read h is =
        let bytes = subst (λ e. Stands t b e w) at-end all-stand in
        number-done p t depth b h.1.first few (first-there _ h.1) (string_bytes d.number.text) (length t) h.1.starts
        (number-span h true is) (sym (slice-stands t b (length t) w bytes) ∙ sym h.0.text)

  -- of a string
  module _ (h : HoldsString d w) where
    quote-there : slice_get t b ≡ Some 34
    quote-there = (subst (λ v. Stands t b (b + length w) v) h.is all-stand).0

    rest-end : b + 1 + length h.rest ≡ length t
    rest-end = omega (arith, at-end, ap length h.is)

    rest-there : Stands t (b + 1) (b + 1 + length h.rest) h.rest
    rest-there =
        let place : b + length w ≡ b + 1 + length h.rest = omega (arith, ap length h.is) in
        subst (λ e. Stands t (b + 1) e h.rest) place
        (subst (λ v. Stands t b (b + length w) v) h.is all-stand).1

    cut-whole : content_at whole t (b + 1) ≡ failed eof_string (length t)
    cut-whole =
        (ended d.string h.rest h.taken t (b + 1) rest-there (sym rest-end)).1 ∙ ap (failed eof_string) rest-end

    module _ (p : Settings) (depth : ℕ) (few : depth ≤ 200) where
      text-read : (x : Scanned Text) → content_at (value_form p.mode) t (b + 1) ≡ x
          → value_in (rules_as owned p) t depth b
          ≡ scalar_at b (seen_as (λ s e. string (owned_text s)) x)
      text-read x is =
          inside_at-starts (rules_as owned p) t (201 - depth) b start.String (omega (arith, few))
          (ap start_of (get_or_from_slice_get t b 34 0 quote-there))
          ∙ ap (λ c. scalar_at b (seen_as (λ s e. string (owned_text s)) c)) is

      text-cut : allows_trailing_strings p.mode ≡ false → CutAt p t depth b eof_string (length t)
      text-cut off = record {
        byte = 34;
        here = quote-there;
        starts = tt;
        read = text-read (failed eof_string (length t))
            (ap (λ partial. content_at (text_form partial) t (b + 1)) off ∙ cut-whole);
      }

      -- that is kept
      module _ (on : allows_trailing_strings p.mode ≡ true) (escaped : Bool) (bad : Bool)
          (is : content_at kept t (b + 1)
          ≡ text_or (not bad) (b + 1) escaped d.string.text.text (b + 1 + length h.rest)) where
        kept-read : value_in (rules_as owned p) t depth b
            ≡ scalar_at b (seen_as (λ s e. string (owned_text s))
            (text_or (not bad) (b + 1) escaped d.string.text.text (b + 1 + length h.rest)))
        kept-read = text-read _ (ap (λ partial. content_at (text_form partial) t (b + 1)) on ∙ is)

        kept-done : bad ≡ false
            → value_in (rules_as owned p) t depth b ≡ done (string (text_of d.string.text.text)) (length t)
        kept-done good =
            kept-read
            ∙ ap (λ x. scalar_at b (seen_as (λ s e. string (owned_text s))
            (text_or (not x) (b + 1) escaped d.string.text.text (b + 1 + length h.rest)))) good
            ∙ ap (done (string (text_of d.string.text.text))) rest-end

        kept-fails : bad ≡ true
            → value_in (rules_as owned p) t depth b ≡ fault invalid_code_point (b + 1 + length d.string.text.text) b
        kept-fails broken =
            kept-read
            ∙ ap (λ x. scalar_at b (seen_as (λ s e. string (owned_text s))
            (text_or (not x) (b + 1) escaped d.string.text.text (b + 1 + length h.rest)))) broken

    -- and of a key
    key-cut : (p : Settings) (fs : List OpenFrame) (ms : List (Text × Tree))
        → key_from (rules_as owned p) t fs ms b
        ≡ resume (rules_as owned p) t fs
        (if_forgiven (rules_as owned p) (λ e. object (members_of ms)) eof_string (length t) b)
    key-cut p fs ms =
        key-failed (rules_as owned p) t (rules_as-advances owned p t) fs ms b (length t) eof_string
        (slice_get_within t b 34 quote-there) refl (ap (seen_as (λ s e. owned_text s)) cut-whole)

-- ---- the error of the end

pub end-some : (d : Document) (k : Option Kind) (x : Option FaultKind) (kind : FaultKind) (f : Fault)
    → option_map fault_kind x ≡ k → x ≡ Some kind → f ≡ record { kind = kind; index = d.position }
    → IsEndFault d k (Some f)
end-some d k x kind f told is made = (
  sym told ∙ ap (option_map fault_kind) is ∙ ap (λ (g : Fault). Some (fault_kind g.kind)) (sym made),
  ap (λ (g : Fault). g.index) made,
)

pub end-none : (d : Document) (k : Option Kind) (x : Option FaultKind) → option_map fault_kind x ≡ k → x ≡ None
    → IsEndFault d k None
end-none d k x told is = sym told ∙ ap (option_map fault_kind) is

-- ---- what the bytes answer then

abbrev end_led : Settings → List ℕ → Arrived → Type 0
end_led p t s = prefix_answer (rules_as owned p) t ≡ leads_on (rules_as owned p) t s (length t)

-- nothing has come yet
pub nothing-comes : (p : Settings) (t : List ℕ) (o : Opened) → ReadsAt p t [] None o
    → prefix_answer (rules_as owned p) t ≡ opened_to p t o (length t)
nothing-comes p t o h =
    subst (λ v. prefix_answer (rules_as owned p) v ≡ opened_to p v o (length t)) (append-nil t) h

-- an error that was found
pub fault-found : (p : Settings) (t : List ℕ) (x : Option Fault) (o : Opened) (v : Option Tree) → ReadsAt p t [] x o
    → is_some x ≡ true → AnswersSo p t x v
fault-found p t (Some f) o v h some = (h.0, sym (ap (answer_as owned p) (append-nil t)) ∙ h.1)
fault-found p t None o v h some = absurd (false≢true some)

-- the error of the end
pub end-answered : (d : Document) (p : Settings) (t : List ℕ) (x : Option Kind) (k : Kind) (stop : ℕ)
    (r : Option Fault) (v : Option Tree) → x ≡ Some k → IsEndFault d x r → d.position ≡ length t
    → answer_as owned p t ≡ fault k (length t) stop → AnswersSo p t r v
end-answered d p t x k stop None v is end place h = absurd (none-some k (sym end ∙ is))
end-answered d p t x k stop (Some f) v is end place h = (
  stop,
  h ∙ ap (λ l. fault l (length t) stop) (same_Some _ _ (sym is ∙ end.0))
      ∙ ap (λ i. fault (fault_kind f.kind) i stop) (sym (end.1 ∙ place)),
)

-- what is left open after the scalar, where it is a value there
far-shown : (d : Document) (k : Token) (fs : List OpenFrame) (b : ℕ) → d.token ≡ k → shown_as d k ≡ true
    → so_far d (in_scalar fs b) ≡ after_value (token_tree d k) fs
far-shown d k fs b is sure =
    ap (λ j. if shown_as d j then after_value (token_tree d j) fs else at_value awaits.Value fs) is
    ∙ if-true (shown_as d k) _ _ sure

far-hidden : (d : Document) (k : Token) (fs : List OpenFrame) (b : ℕ) → d.token ≡ k → shown_as d k ≡ false
    → so_far d (in_scalar fs b) ≡ at_value awaits.Value fs
far-hidden d k fs b is sure =
    ap (λ j. if shown_as d j then after_value (token_tree d j) fs else at_value awaits.Value fs) is
    ∙ if-false (shown_as d k) _ _ sure

pub kind-whole : (d : Document) (fs : List OpenFrame) (b : ℕ) → d.token ≡ token.Number → is_whole d.number.stage ≡ true
    → kind_at_end d (in_scalar fs b) ≡ end_of (after_value (token_tree d token.Number) fs)
kind-whole d fs b is sure =
    ap (λ k. kind_as d k (in_scalar fs b)) is ∙ if-true (is_whole d.number.stage) _ _ sure

kind-cut : (d : Document) (fs : List OpenFrame) (b : ℕ) → d.token ≡ token.Number → is_whole d.number.stage ≡ false
    → kind_at_end d (in_scalar fs b) ≡ Some eof_value
kind-cut d fs b is sure =
    ap (λ k. kind_as d k (in_scalar fs b)) is ∙ if-false (is_whole d.number.stage) _ _ sure

-- With partial reading off: between two tokens,
module _ (d : Document) (t : List ℕ) (place : d.position ≡ length t) where
  abbrev p : Settings
  p = strictly d.settings

  none-forgiven : (k : Kind) → (rules_as owned p).forgives k ≡ false
  none-forgiven k = refl

  strict-led : (s : Arrived) (x : Option Kind) (r : Option Fault) → x ≡ end_of s → IsEndFault d x r
      → EndsRight t (between_tokens s) → end_led p t s → AnswersSo p t r (shown s)
  strict-led (at_value awaits.Colon fs) x r is end ends led =
      end-answered d p t x eof_object (length t) r _ is end place (led-end p t refl (at_value awaits.Colon fs) _ led refl)
  strict-led (at_value awaits.Value fs) x r is end ends led =
      end-answered d p t x eof_value (length t) r _ is end place (led-end p t refl (at_value awaits.Value fs) _ led refl)
  strict-led (at_value awaits.First fs) x r is end ends led =
      end-answered d p t x eof_value (length t) r _ is end place (led-end p t refl (at_value awaits.First fs) _ led refl)
  strict-led (at_value awaits.Next fs) x r is end ends led =
      end-answered d p t x eof_value (length t) r _ is end place (led-end p t refl (at_value awaits.Next fs) _ led refl)
  strict-led (at_value awaits.Comma fs) x r is end ends led =
      end-answered d p t x eof_value (length t) r _ is end place (led-end p t refl (at_value awaits.Comma fs) _ led refl)
  strict-led (at_value awaits.Nothing fs) x r is end ends led =
      end-answered d p t x eof_value (length t) r _ is end place (led-end p t refl (at_value awaits.Nothing fs) _ led refl)
  strict-led (between_parts awaits.Next h xs fs) x r is end ends led =
      end-answered d p t x eof_value (length t) r _ is end place
      (led-end p t refl (between_parts awaits.Next h xs fs) _ led refl)
  strict-led (between_parts awaits.First h xs fs) x r is end ends led =
      end-answered d p t x (end_kind_of h) (length t) r _ is end place
      (led-end p t refl (between_parts awaits.First h xs fs) _ led refl)
  strict-led (between_parts awaits.Comma h xs fs) x r is end ends led =
      end-answered d p t x (end_kind_of h) (length t) r _ is end place
      (led-end p t refl (between_parts awaits.Comma h xs fs) _ led refl)
  strict-led (between_parts awaits.Value h xs fs) x r is end ends led =
      end-answered d p t x (end_kind_of h) (length t) r _ is end place
      (led-end p t refl (between_parts awaits.Value h xs fs) _ led refl)
  strict-led (between_parts awaits.Colon h xs fs) x r is end ends led =
      end-answered d p t x (end_kind_of h) (length t) r _ is end place
      (led-end p t refl (between_parts awaits.Colon h xs fs) _ led refl)
  strict-led (between_parts awaits.Nothing h xs fs) x r is end ends led =
      end-answered d p t x (end_kind_of h) (length t) r _ is end place
      (led-end p t refl (between_parts awaits.Nothing h xs fs) _ led refl)
  strict-led (at_end v n) x None is end ends led =
      (v, refl, (length t - n, whole-answers p t v n refl ends led))
  strict-led (at_end v n) x (Some f) is end ends led = absurd (none-some _ (sym is ∙ end.0))

  -- in a scalar that is cut,
  strict-cut : (fs : List OpenFrame) (b : ℕ) (k : Kind) (r : Option Fault) (v : Option Tree)
      → kind_at_end d (in_scalar fs b) ≡ Some k → IsEndFault d (kind_at_end d (in_scalar fs b)) r
      → CutAt p t (length fs) b k (length t)
      → prefix_answer (rules_as owned p) t ≡ value_from (rules_as owned p) t fs b → AnswersSo p t r v
  strict-cut fs b k r v is end cut led =
      end-answered d p t _ k b r v is end place
      (prefix-fault p t k (length t) b (fault-answers p t fs b k (length t) b (none-forgiven k) cut.read led))

  -- in one that is a number,
  strict-whole : (fs : List OpenFrame) (b : ℕ) (r : Option Fault) → d.token ≡ token.Number
      → is_whole d.number.stage ≡ true → IsEndFault d (kind_at_end d (in_scalar fs b)) r
      → value_in (rules_as owned p) t (length fs) b ≡ done (token_tree d token.Number) (length t)
      → prefix_answer (rules_as owned p) t ≡ value_from (rules_as owned p) t fs b
      → AnswersSo p t r (shown (so_far d (in_scalar fs b)))
  strict-whole fs b r is sure end read led =
      let v = token_tree d token.Number in
      subst (λ s. AnswersSo p t r (shown s)) (sym (far-shown d token.Number fs b is sure))
      (strict-led (after_value v fs) _ r (kind-whole d fs b is sure) end (ends-after t v fs)
      (value-led p t fs b v read led))

  strict-number : (fs : List OpenFrame) (b : ℕ) (w : List ℕ) (r : Option Fault) → TakenFrom d t b w
      → HoldsScalar d token.Number w → d.token ≡ token.Number → length fs ≤ 200
      → IsEndFault d (kind_at_end d (in_scalar fs b)) r
      → prefix_answer (rules_as owned p) t ≡ value_from (rules_as owned p) t fs b
      → (x : Bool) → is_whole d.number.stage ≡ x → AnswersSo p t r (shown (so_far d (in_scalar fs b)))
  strict-number fs b w r from h is few end led true sure =
      strict-whole fs b r is sure end (number-read d t b w from p refl (length fs) few h sure) led
  strict-number fs b w r from h is few end led false sure =
      strict-cut fs b eof_value r _ (kind-cut d fs b is sure) end (number-cut d t b w from p refl (length fs) few h sure)
      led

  strict-scalar : (fs : List OpenFrame) (b : ℕ) (w : List ℕ) (r : Option Fault) → TakenFrom d t b w
      → (k : Token) → d.token ≡ k → HoldsScalar d k w → length fs ≤ 200
      → IsEndFault d (kind_at_end d (in_scalar fs b)) r
      → prefix_answer (rules_as owned p) t ≡ value_from (rules_as owned p) t fs b
      → AnswersSo p t r (shown (so_far d (in_scalar fs b)))
  strict-scalar fs b w r from token.Word is h few end led =
      strict-cut fs b eof_value r _ (ap (λ k. kind_as d k (in_scalar fs b)) is) end
      (word-cut d t b w from p refl (length fs) few h) led
  strict-scalar fs b w r from token.Number is h few end led =
      strict-number fs b w r from h is few end led (is_whole d.number.stage) refl
  strict-scalar fs b w r from token.Text is h few end led =
      strict-cut fs b eof_string r _ (ap (λ k. kind_as d k (in_scalar fs b)) is) end
      (text-cut d t b w from h p (length fs) few refl) led
  strict-scalar fs b w r from token.Key is h few end led = absurd h
  strict-scalar fs b w r from token.Nothing is h few end led = absurd h

  -- and in a key.
  pub strict-answers : (o : Opened) (r : Option Fault) → HoldsOpened d t o → EndsRight t o
      → IsEndFault d (kind_at_end d o) r → prefix_answer (rules_as owned p) t ≡ opened_to p t o (length t)
      → AnswersSo p t r (shown (so_far d o))
  strict-answers (between_tokens s) r h ends end led =
      strict-led s _ r (ap (λ k. kind_as d k (between_tokens s)) h.0) end ends led
  strict-answers (in_scalar fs b) r h ends end led =
      strict-scalar fs b h.0 r h.1 d.token refl h.2 h.4 end led
  strict-answers (in_key fs ms b) r h ends end led =
      end-answered d p t _ eof_string b r _ (ap (λ k. kind_as d k (in_key fs ms b)) h.2) end place
      (prefix-fault p t eof_string (length t) b
      (led ∙ key-cut d t b h.0 h.1 h.3 p fs ms
      ∙ resume-fault (rules_as owned p) t fs eof_string (length t) b (none-forgiven eof_string)))

pub none-found : (x : Option Fault) → is_some x ≡ false → x ≡ None
none-found None h = refl
none-found (Some f) h = absurd (false≢true (sym h))

-- ---- tokens that are no string of a value

nothing-text : token.Nothing ≡ token.Text → ⊥
nothing-text e = absurd (cc)

key-no-text : token.Key ≡ token.Text → ⊥
key-no-text e = absurd (cc)

and-true-left : (a b : Bool) → (a && b) ≡ true → a ≡ true
and-true-left true b h = refl
and-true-left false b h = absurd (false≢true h)

and-true-right : (a b : Bool) → (a && b) ≡ true → b ≡ true
and-true-right true b h = h
and-true-right false b h = absurd (false≢true h)

broken-text : (d : Document) (k : Token) → d.token ≡ k → broken_as d k ≡ true → d.token ≡ token.Text
broken-text d token.Text is h = is
broken-text d token.Nothing is h = absurd (false≢true h)
broken-text d token.Word is h = absurd (false≢true h)
broken-text d token.Number is h = absurd (false≢true h)
broken-text d token.Key is h = absurd (false≢true h)

-- ---- in a partial mode

-- The value is answered, or, where there is none, this error of the end.
pub data IsAnsweredSo (p : Settings) (t : List ℕ) : Option Tree → Option Kind → Type 0 where
  with_value : (v : Tree) (k : Option Kind) (e : ℕ) → answer_as owned p t ≡ done v e → IsAnsweredSo p t (Some v) k
  with_fault : (k : Kind) (stop : ℕ) → answer_as owned p t ≡ fault k (length t) stop → IsAnsweredSo p t None (Some k)

-- the root's first value is awaited
root-ends : (p : Settings) (t : List ℕ) (a : Awaits) (k : Kind) → end_of (at_value a []) ≡ Some k
    → leads_on (rules_as owned p) t (at_value a []) (length t) ≡ fault k (length t) (length t)
root-ends p t awaits.Colon k h =
    ap (λ (x : Span). value_then (rules_as owned p) t 0 (span_then x (step t value_first))) (step-past t colon)
    ∙ ap (λ l. fault l (length t) (length t)) (same_Some _ _ h)
root-ends p t a k h =
    ap (λ (x : Span). value_then (rules_as owned p) t 0 x) (step-past t value_first)
    ∙ ap (λ l. fault l (length t) (length t)) (same_Some _ _ h)

end-some-of : (a : Awaits) → (k : Kind) × (end_of (at_value a []) ≡ Some k)
end-some-of awaits.Colon = (eof_object, refl)
end-some-of a = (eof_value, refl)

module _ (d : Document) (t : List ℕ) (on : is_active d.settings.mode ≡ true) where
  abbrev q : Settings
  q = d.settings

  abbrev So : Option Tree → Option Kind → Type 0
  So v k = IsAnsweredSo q t v k

  partial-shown : (s : Arrived) (v : Tree) (k : Option Kind) → shown s ≡ Some v → end_led q t s → So (shown s) k
  partial-shown s v k is led =
      let end = led-answers q t s v on led is in
      subst (λ x. So x k) (sym is) (with_value v k end.0 end.1)

  partial-led : (s : Arrived) → end_led q t s → So (shown s) (end_of s)
  partial-led (at_value a []) led =
      let e = end-some-of a in
      subst (So None) (sym e.1)
      (with_fault e.0 (length t)
      (prefix-fault q t e.0 (length t) (length t) (led ∙ root-ends q t a e.0 e.1)))
  partial-led (at_value a (f ∷ fs)) led = partial-shown (at_value a (f ∷ fs)) (filled fs (begun f)) _ refl led
  partial-led (between_parts a h xs fs) led = partial-shown (between_parts a h xs fs) (filled fs (built h xs)) _ refl led
  partial-led (at_end v n) led = partial-shown (at_end v n) v _ refl led

  -- after a scalar that is a value there
  shown-after : (v : Tree) (fs : List OpenFrame) → (w : Tree) × (shown (after_value v fs) ≡ Some w)
  shown-after v [] = (v, refl)
  shown-after v (items_frame xs ∷ fs) = (filled fs (array (items_of (xs ++ v ∷ []))), refl)
  shown-after v (members_frame ms k ∷ fs) = (filled fs (object (members_of (ms ++ (k, v) ∷ []))), refl)

  partial-whole : (k : Token) (fs : List OpenFrame) (b : ℕ) (x : Option Kind) → d.token ≡ k → shown_as d k ≡ true
      → value_in (rules_as owned q) t (length fs) b ≡ done (token_tree d k) (length t)
      → prefix_answer (rules_as owned q) t ≡ value_from (rules_as owned q) t fs b
      → So (shown (so_far d (in_scalar fs b))) x
  partial-whole k fs b x is sure read led =
      let v = token_tree d k in
      let w = shown-after v fs in
      subst (λ s. So (shown s) x) (sym (far-shown d k fs b is sure))
      (partial-shown (after_value v fs) w.0 x w.1 (value-led q t fs b v read led))

  -- after one that is cut
  cut-so : (fs : List OpenFrame) (b : ℕ) (k : Kind) → is_forgiven k ≡ true → CutAt q t (length fs) b k (length t)
      → prefix_answer (rules_as owned q) t ≡ value_from (rules_as owned q) t fs b
      → So (shown (at_value awaits.Value fs)) (Some k)
  cut-so [] b k ok cut led =
      with_fault k b (prefix-fault q t k (length t) b (root-answers q t b k (length t) b cut.read led))
  cut-so (f ∷ fs) b k ok cut led =
      with_value (filled fs (begun f)) (Some k) b
      (dropped-answers q t f fs b cut.byte k (length t) on cut.here cut.starts cut.read ok led)

  partial-cut : (token : Token) (fs : List OpenFrame) (b : ℕ) (k : Kind) → d.token ≡ token → shown_as d token ≡ false
      → kind_at_end d (in_scalar fs b) ≡ Some k → is_forgiven k ≡ true → CutAt q t (length fs) b k (length t)
      → prefix_answer (rules_as owned q) t ≡ value_from (rules_as owned q) t fs b
      → So (shown (so_far d (in_scalar fs b))) (kind_at_end d (in_scalar fs b))
  partial-cut token fs b k is not-so kind ok cut led =
      subst (λ s. So (shown s) (kind_at_end d (in_scalar fs b))) (sym (far-hidden d token fs b is not-so))
      (subst (So (shown (at_value awaits.Value fs))) (sym kind) (cut-so fs b k ok cut led))

  partial-number : (fs : List OpenFrame) (b : ℕ) (w : List ℕ) → TakenFrom d t b w → HoldsScalar d token.Number w
      → d.token ≡ token.Number → length fs ≤ 200
      → prefix_answer (rules_as owned q) t ≡ value_from (rules_as owned q) t fs b
      → (x : Bool) → is_whole d.number.stage ≡ x
      → So (shown (so_far d (in_scalar fs b))) (kind_at_end d (in_scalar fs b))
  partial-number fs b w from h is few led true sure =
      partial-whole token.Number fs b _ is sure (number-read d t b w from q refl (length fs) few h sure) led
  partial-number fs b w from h is few led false sure =
      partial-cut token.Number fs b eof_value is sure (kind-cut d fs b is sure) refl
      (number-cut d t b w from q refl (length fs) few h sure) led

  -- A string, kept or not
  module _ (fs : List OpenFrame) (b : ℕ) (w : List ℕ) (from : TakenFrom d t b w) (h : HoldsString d w)
      (is : d.token ≡ token.Text) (few : length fs ≤ 200)
      (led : prefix_answer (rules_as owned q) t ≡ value_from (rules_as owned q) t fs b) where
    -- as it is there
    stands-kept : KeepsText d → allows_trailing_strings q.mode ≡ true
        → content_at kept t (b + 1)
        ≡ text_or (not d.string.text.broken) (b + 1) (h.taken.escaped || is_some d.string.escape)
        d.string.text.text (b + 1 + length h.rest)
    stands-kept keeps sure =
        keeps is sure h.rest h.taken t (b + 1) (rest-there d t b w from h) (sym (rest-end d t b w from h))

    partial-text : KeepsText d → is_broken d ≡ false → (x : Bool) → allows_trailing_strings q.mode ≡ x
        → So (shown (so_far d (in_scalar fs b))) (kind_at_end d (in_scalar fs b))
    partial-text keeps good false sure =
        partial-cut token.Text fs b eof_string is (ap (λ x. x && not d.string.text.broken) sure)
        (ap (λ k. kind_as d k (in_scalar fs b)) is) refl (text-cut d t b w from h q (length fs) few sure) led
    partial-text keeps good true sure =
        let whole-so : d.string.text.broken ≡ false =
        sym (ap (λ x. x && d.string.text.broken) sure) ∙ sym (ap (broken_as d) is) ∙ good in
        partial-whole token.Text fs b _ is
        (ap (λ x. x && not d.string.text.broken) sure ∙ ap not whole-so)
        (kept-done d t b w from h q (length fs) few sure _ d.string.text.broken (stands-kept keeps sure) whole-so) led

    text-broken : KeepsText d → is_broken d ≡ true
        → answer_as owned q t ≡ fault invalid_code_point (b + 1 + length d.string.text.text) b
    text-broken keeps bad =
        let both : (allows_trailing_strings q.mode && d.string.text.broken) ≡ true = sym (ap (broken_as d) is) ∙ bad in
        let sure = and-true-left (allows_trailing_strings q.mode) d.string.text.broken both in
        let broken = and-true-right (allows_trailing_strings q.mode) d.string.text.broken both in
        prefix-fault q t invalid_code_point (b + 1 + length d.string.text.text) b
        (fault-answers q t fs b invalid_code_point (b + 1 + length d.string.text.text) b
        (ap (λ x. (if x then is_forgiven else nothing_forgiven) invalid_code_point) on)
        (kept-fails d t b w from h q (length fs) few sure _ d.string.text.broken (stands-kept keeps sure) broken) led)

  partial-scalar : (fs : List OpenFrame) (b : ℕ) (w : List ℕ) → TakenFrom d t b w → (k : Token) → d.token ≡ k
      → HoldsScalar d k w → length fs ≤ 200 → KeepsText d → is_broken d ≡ false
      → prefix_answer (rules_as owned q) t ≡ value_from (rules_as owned q) t fs b
      → So (shown (so_far d (in_scalar fs b))) (kind_at_end d (in_scalar fs b))
  partial-scalar fs b w from token.Word is h few keeps good led =
      partial-cut token.Word fs b eof_value is refl (ap (λ k. kind_as d k (in_scalar fs b)) is) refl
      (word-cut d t b w from q refl (length fs) few h) led
  partial-scalar fs b w from token.Number is h few keeps good led =
      partial-number fs b w from h is few led (is_whole d.number.stage) refl
  partial-scalar fs b w from token.Text is h few keeps good led =
      partial-text fs b w from h is few led keeps good (allows_trailing_strings q.mode) refl
  partial-scalar fs b w from token.Key is h few keeps good led = absurd h
  partial-scalar fs b w from token.Nothing is h few keeps good led = absurd h

  -- What the bytes answer, where no string is broken.
  pub partial-answers : (o : Opened) → HoldsOpened d t o → KeepsText d → is_broken d ≡ false
      → prefix_answer (rules_as owned q) t ≡ opened_to q t o (length t)
      → So (shown (so_far d o)) (kind_at_end d o)
  partial-answers (between_tokens s) h keeps good led =
      subst (So (shown s)) (sym (ap (λ k. kind_as d k (between_tokens s)) h.0)) (partial-led s led)
  partial-answers (in_scalar fs b) h keeps good led =
      partial-scalar fs b h.0 h.1 d.token refl h.2 h.4 keeps good led
  partial-answers (in_key fs ms b) h keeps good led =
      let here = quote-there d t b h.0 h.1 h.3 in
      with_value (filled fs (object (members_of ms))) _ b
      (if-true (is_active q.mode) (prefix_answer (rules_as owned q) t) (whole_answer (rules_as owned q) t) on
      ∙ led ∙ key-cut d t b h.0 h.1 h.3 q fs ms
      ∙ ap (resume (rules_as owned q) t fs)
      (if_forgiven-yes (rules_as owned q) t (λ e. object (members_of ms)) eof_string (length t) b
      (ap (λ x. (if x then is_forgiven else nothing_forgiven) eof_string) on))
      ∙ all-close q t on b (sticks-scalar t b 34 here tt) fs (object (members_of ms)))

  -- Where the string is, it has an error.
  pub broken-answers : (o : Opened) → HoldsOpened d t o → KeepsText d → is_broken d ≡ true → d.token ≡ token.Text
      → prefix_answer (rules_as owned q) t ≡ opened_to q t o (length t)
      → (stop : ℕ) × (answer_as owned q t ≡ fault invalid_code_point (d.begin + 1 + length d.string.text.text) stop)
  broken-answers (between_tokens s) h keeps bad is led = absurd (nothing-text (sym h.0 ∙ is))
  broken-answers (in_key fs ms b) h keeps bad is led = absurd (key-no-text (sym h.2 ∙ is))
  broken-answers (in_scalar fs b) h keeps bad is led = (
    b,
    text-broken fs b h.0 h.1 (subst (λ k. HoldsScalar d k h.0) is h.2) is h.4 led keeps bad
        ∙ ap (λ x. fault invalid_code_point (x + 1 + length d.string.text.text) b) (sym h.1.place),
  )

-- The value, where there is one; else the error.
pub value-answered : (d : Document) (t : List ℕ) (v : Option Tree) (k : Option Kind) → is_some v ≡ true
    → IsAnsweredSo d.settings t v k → AnswersSo d.settings t None v
value-answered d t (Some v) k sure (with_value w l e h) = (w, refl, (e, h))
value-answered d t None k sure a = absurd (false≢true sure)

pub none-answered : (d : Document) (t : List ℕ) (v : Option Tree) (k : Option Kind) (r : Option Fault)
    → is_some v ≡ false → IsEndFault d k r → d.position ≡ length t → IsAnsweredSo d.settings t v k
    → AnswersSo d.settings t r v
none-answered d t (Some v) k r none end place a = absurd (false≢true (sym none))
none-answered d t None k r none end place (with_fault l stop h) = end-answered d d.settings t k l stop r None refl end place h

pub broken-answered : (d : Document) (t : List ℕ) (o : Opened) (v : Option Tree) (f : Fault) (i : ℕ)
    → is_active d.settings.mode ≡ true → HoldsOpened d t o → KeepsText d → is_broken d ≡ true
    → prefix_answer (rules_as owned d.settings) t ≡ opened_to d.settings t o (length t)
    → i ≡ d.begin + 1 + length d.string.text.text
    → f ≡ record { kind = fault_of.InvalidUnicodeCodePoint; index = i } → AnswersSo d.settings t (Some f) v
broken-answered d t o v f i on held keeps bad led place made =
    let a = broken-answers d t on o held keeps bad (broken-text d d.token refl bad) led in (
      a.0,
      a.1 ∙ ap (λ j. fault invalid_code_point j a.0) (sym place)
          ∙ ap (λ (g : Fault). fault (fault_kind g.kind) g.index a.0) (sym made),
    )

-- Its place is none that is too large.
pub broken-low : (d : Document) (t : List ℕ) (h : HasTakenAll d t) → d.fault ≡ None → is_broken d ≡ true
    → d.begin + 1 + length d.string.text.text ≤ d.position
broken-low d t h unset bad =
    let k : IsOfString d.token = inl (broken-text d d.token refl bad) in
    let o = h.read.opened in
    let held = h.read.held unset in
    omega (arith, is-placed d t k o held, text-low d.string t (begin_of o) (is-held d t k o held), h.position)
