-- What the bytes of a string or a key make of a document that arrives in chunks.
use Rattle.jiter_incremental.proofs.Documents.{same-inside, IsInside, ends-inside, known-as, known-in, known-on}
use Rattle.jiter_incremental.proofs.Documents.{noted-some, reads-after}
use Rattle.jiter_incremental.proofs.Words.{◌≡◌, ℕ, ◌+◌, ◌-◌, ◌<◌, ◌≤◌, inl, inr, Bool, true, false, List, [], ◌∷◌, ◌++◌}
use Rattle.jiter_incremental.proofs.Words.{get_or, length, refl, sym, ap, subst, ◌∙◌, arith, append_assoc, append-nil}
use Rattle.jiter_incremental.proofs.Words.{length-append, get_or-append_seam, slice_get, slice_range, Option, Some}
use Rattle.jiter_incremental.proofs.Words.{None, ◌==◌, slice_get-get_or, slice_get_within, get_or_from_slice_get}
use Rattle.jiter_incremental.proofs.Words.{false≢true, if_case, failed-taken, slice-one, Kind, fault_kind, is_forgiven}
use Rattle.jiter_incremental.proofs.Words.{invalid_code_point, allows_trailing_strings, is_active, Off, taken, failed}
use Rattle.jiter_incremental.proofs.Words.{Stands, Fault, FaultKind, nothing_forgiven, seen_as, value_form}
use Rattle.jiter_incremental.proofs.Words.{members_frame, resume, value_in, key_from, start_of, GoesOnWith, HasTaken}
use Rattle.jiter_incremental.proofs.Words.{text_or, Rules, done, fault, scalar_at, to_end, whole, text_form, content_at}
use Rattle.jiter_incremental.proofs.Words.{Text, Tree, string, PartialString, if_forgiven-no, key-failed, resume-fault}
use Rattle.jiter_incremental.proofs.Words.{inside_at-starts, whole-is, IsLeft, OpenValue, at_value, owned, completed}
use Rattle.jiter_incremental.proofs.Words.{text_of, MayFollow, Document, Follows, HasTakenAll, HasTakenIn, HoldsOpened}
use Rattle.jiter_incremental.proofs.Words.{HoldsScalar, HoldsString, IsReading, IsRefused, ReadSoFar, Next, Opened}
use Rattle.jiter_incremental.proofs.Words.{ReadsAt, Strictness, TakenFrom, any_bytes, by_mode, fault_by, settings_by}
use Rattle.jiter_incremental.proofs.Words.{strict, between_tokens, in_key, in_scalar, noted_in, opened_to, strictly}
use Rattle.jiter_incremental.proofs.Words.{with_byte, with_first, OpenFrame, IsClosedAs, IsKeyAs, IsOfString, IsTextAs}
use Rattle.jiter_incremental.proofs.Words.{owned_text, rules_as, Token, Settings, rules_as-advances}
use Rattle.std.specs.Str.Lossy.{utf8_valid_len}
use Rattle.jiter_scan.proofs.Choices.{if_gives}
use Rattle.jiter_scan.specs.declared.partial_mode.PartialMode.{PartialMode}
use Rattle.jiter_scan.specs.declared.partial_mode.PartialMode.TheVariants.{On, TrailingStrings}
use Rattle.jiter_scan.specs.declared.errors.FaultKind.TheVariants as fault_of
use Rattle.jiter_steps.specs.PartialText.{HoldsBytes}
use Rattle.jiter_steps.specs.StringReading.{Form, Stop, text_in_form, Body, body_at, closed, unclosed, cut, wrong}
use Rattle.jiter_steps.specs.declared.partial_string.StringStep.TheVariants as went
use Rattle.jiter_steps.specs.declared.parse.Start.TheVariants as start
use Rattle.jiter_steps.proofs.Grammar.Places.{IsPlaceKind}
use Rattle.jiter_steps.proofs.Reading.Bodies.{StopWithin, body_at-long, body_at-within}
use Rattle.jiter_steps.proofs.Reading.StringForms.{content-kept}
use Rattle.jiter_incremental.specs.declared.reader.Token.TheVariants as token
use Rattle.jiter_incremental.specs.declared.reader.Awaits.TheVariants as awaits

-- the same document, with this string and this first error
abbrev pub turned : Document → PartialString → Option Fault → Document
turned d s f = record d { string = s; first = f }

-- with this string
abbrev pub with_string : Document → PartialString → Document
with_string d s = turned d s d.first

-- and between two tokens, with this value
abbrev pub with_value : Document → OpenValue → Document
with_value d v = record d { token = token.Nothing; value = v }

-- where it begins
abbrev pub begin_of : Opened → ℕ
begin_of (between_tokens s) = 0
begin_of (in_scalar fs b) = b
begin_of (in_key fs ms b) = b

-- in which form it is read
abbrev pub form_of : Settings → Opened → Form
form_of p (between_tokens s) = whole
form_of p (in_scalar fs b) = value_form p.mode
form_of p (in_key fs ms b) = whole

-- Its bytes are at the end of those that were read.
pub record InString (s : PartialString) (t : List ℕ) (b : ℕ) : Type 0 where
  pub prefix : List ℕ
  pub rest : List ℕ
  pub is : t ≡ prefix ++ (34 ∷ rest)
  pub begin : length prefix ≡ b
  pub taken_so : HasTaken s rest

no-token : (k : Token) → IsOfString k → k ≡ token.Nothing → ⊥
no-token k (inl e) n = absurd (cc)
no-token k (inr e) n = absurd (cc)

in-string : (d : Document) (t : List ℕ) (b : ℕ) (w : List ℕ) → TakenFrom d t b w → HoldsString d w
    → InString d.string t b
in-string d t b w f h = record {
  prefix = f.prefix;
  rest = h.rest;
  is = f.is ∙ ap (λ x. f.prefix ++ x) h.is;
  begin = f.begin;
  taken_so = h.taken;
}

-- what is held of a string
held-scalar : (d : Document) (k : Token) (w : List ℕ) → d.token ≡ k → IsOfString k → HoldsScalar d d.token w
    → (k ≡ token.Text) × HoldsString d w
held-scalar d k w e (inl x) h = (x, subst (λ k. HoldsScalar d k w) (e ∙ x) h)
held-scalar d k w e (inr x) h = absurd (subst (λ k. HoldsScalar d k w) (e ∙ x) h)

module _ (d : Document) (t : List ℕ) (k : IsOfString d.token) where
  pub is-inside : (o : Opened) → HoldsOpened d t o → IsInside o
  is-inside (between_tokens s) h = no-token d.token k h.0
  is-inside (in_scalar fs b) h = h.4
  is-inside (in_key fs ms b) h = tt

  pub is-held : (o : Opened) → HoldsOpened d t o → InString d.string t (begin_of o)
  is-held (between_tokens s) h = absurd (no-token d.token k h.0)
  is-held (in_scalar fs b) h = in-string d t b h.0 h.1 (held-scalar d d.token h.0 refl k h.2).1
  is-held (in_key fs ms b) h = in-string d t b h.0 h.1 h.3

  pub is-placed : (o : Opened) → HoldsOpened d t o → d.begin ≡ begin_of o
  is-placed (between_tokens s) h = absurd (no-token d.token k h.0)
  is-placed (in_scalar fs b) h = h.1.place
  is-placed (in_key fs ms b) h = h.1.place

  -- The string goes on.
  module _ (s : PartialString) (f : Option Fault) (v : List ℕ) (more : (w : List ℕ) → HasTaken d.string w → HasTaken s (w ++ v)) where
    from-longer : (b : ℕ) (w : List ℕ) → TakenFrom d t b w → TakenFrom (turned d s f) (t ++ v) b (w ++ v)
    from-longer b w x = record {
      prefix = x.prefix;
      is = ap (λ y. y ++ v) x.is ∙ append_assoc x.prefix w v;
      begin = x.begin;
      place = x.place;
    }

    string-longer : (w : List ℕ) → HoldsString d w → HoldsString (turned d s f) (w ++ v)
    string-longer w h = record {
      rest = h.rest ++ v;
      is = ap (λ x. x ++ v) h.is;
      taken = more h.rest h.taken;
    }

    pub goes-on : (o : Opened) → HoldsOpened d t o → HoldsOpened (turned d s f) (t ++ v) o
    goes-on (between_tokens a) h = absurd (no-token d.token k h.0)
    goes-on (in_scalar fs b) h =
        let x = held-scalar d d.token h.0 refl k h.2 in (
          h.0 ++ v,
          from-longer b h.0 h.1,
          subst (λ k. HoldsScalar (turned d s f) k (h.0 ++ v)) (sym x.0) (string-longer h.0 x.1),
          h.3,
          h.4,
        )
    goes-on (in_key fs ms b) h =
        (h.0 ++ v, from-longer b h.0 h.1, h.2, string-longer h.0 h.3, h.4, h.5, h.6)

-- Bytes are taken into the string.
pub taken-on : (d : Document) (s : PartialString) (t v : List ℕ) → IsOfString d.token → d.fault ≡ None
    → ((w : List ℕ) → HasTaken d.string w → HasTaken s (w ++ v)) → HasTakenIn any_bytes d t
    → HasTakenIn any_bytes (with_string d s) (t ++ v)
taken-on d s t v k unset more h =
    let held = h.held unset in
    record {
      opened = h.opened;
      known =
          known-in any_bytes any_bytes d (with_string d s) t v h.opened (is-inside d t k h.opened held) (refl, refl, refl)
          (λ u c. tt) h.known;
      held = λ e. goes-on d t k s d.first v more h.opened held;
    }

-- or none, and it is as it was.
pub taken-same : (d : Document) (s : PartialString) (t : List ℕ) → IsOfString d.token → d.fault ≡ None
    → ((w : List ℕ) → HasTaken d.string w → HasTaken s w) → HasTakenIn any_bytes d t
    → HasTakenIn any_bytes (with_string d s) t
taken-same d s t k unset same h =
    subst (HasTakenIn any_bytes (with_string d s)) (append-nil t)
    (taken-on d s t [] k unset (λ w x. subst (HasTaken s) (sym (append-nil w)) (same w x)) h)

-- bytes are after those before them
stands-from : (w f x t : List ℕ) (i j : ℕ) → t ≡ f ++ (w ++ x) → i ≡ length f → j ≡ i + length w → Stands t i j w
stands-from [] f x t i j is at end = omega arith
stands-from (c ∷ w) f x t i j is at end =
    let y = f ++ (c ∷ (w ++ x)) in
    let long : length f < length y = omega (arith, length-append f (c ∷ (w ++ x))) in
    let here : slice_get y (length f) ≡ Some c =
    slice_get-get_or y (length f) 0 long ∙ ap Some (get_or-append_seam f c (w ++ x) 0) in
    let next : i + 1 ≡ length (f ++ c ∷ []) = omega (arith, length-append f (c ∷ [])) in
    let stop : j ≡ i + 1 + length w = omega arith in (
      ap (λ z. slice_get z i) is ∙ ap (slice_get y) at ∙ here,
      stands-from w (f ++ c ∷ []) x t (i + 1) j (is ∙ sym (append_assoc f (c ∷ []) (w ++ x))) next stop,
    )

module _ (s : PartialString) (t : List ℕ) (b : ℕ) (h : InString s t b) where
  size : length t ≡ b + 1 + length h.rest
  size = omega (arith, ap length h.is, length-append h.prefix (34 ∷ h.rest), h.begin)

  -- In a text that goes on with x,
  module _ (T x : List ℕ) (text : T ≡ t ++ x) where
    all-stand : Stands T b (length t) (34 ∷ h.rest)
    all-stand =
        stands-from (34 ∷ h.rest) h.prefix x T b (length t)
        (text ∙ ap (λ y. y ++ x) h.is ∙ append_assoc h.prefix (34 ∷ h.rest) x) (sym h.begin) (omega (arith, size))

    quote-here : slice_get T b ≡ Some 34
    quote-here = all-stand.0

    rest-stand : Stands T (b + 1) (b + 1 + length h.rest) h.rest
    rest-stand = subst (λ j. Stands T (b + 1) j h.rest) size all-stand.1

  next-byte : (T u : List ℕ) (c : ℕ) → T ≡ t ++ c ∷ u → slice_get T (b + 1 + length h.rest) ≡ Some c
  next-byte T u c text =
      ap (slice_get T) (sym size)
      ∙ (stands-from (c ∷ []) t u T (length t) (length t + 1) text refl refl).0

  -- and where its quote comes next, the string is this text, or has this error.
  pub content-closed : (partial answer : Bool) → IsClosedAs s partial answer → s.escape ≡ None → (T u : List ℕ)
      → T ≡ t ++ 34 ∷ u
      → content_at (text_form partial) T (b + 1) ≡ text_or answer (b + 1) h.taken_so.escaped s.text.text (length t + 1)
  content-closed partial answer is none T u text =
      is h.rest h.taken_so none T (b + 1) (rest-stand T (34 ∷ u) text) (next-byte T u 34 text)
      ∙ ap (λ j. text_or answer (b + 1) h.taken_so.escaped s.text.text (j + 1)) (sym size)

  -- No more was decoded than was taken.
  holds-long : (broken : Bool) (text rest d : List ℕ) → HoldsBytes broken text rest d → length text ≤ length d
  holds-long true text rest d x = omega (arith, ap length x.1, length-append text x.0)
  holds-long false text rest d x = omega (arith, ap length x.0, length-append text rest)

  pub text-low : b + 1 + length s.text.text ≤ length t
  text-low =
      let stands = rest-stand t [] (sym (append-nil t)) in
      let body = h.taken_so.goes t (b + 1) stands in
      let decoded = h.taken_so.decoded in
      let tail = (body_at t (b + 1 + length h.taken_so.prefix)).bytes in
      let low : b + 1 ≤ length t = omega (arith, size) in
      omega (
        arith,
        body_at-long t (b + 1) low,
        ap (λ (x : Body). length x.bytes) body,
        length-append decoded tail,
        holds-long s.text.broken s.text.text s.text.rest decoded h.taken_so.holds,
      )

-- What is read whole is read so in each form,
form-taken : (partial : Bool) (t : List ℕ) (i e : ℕ) (x : Text) → content_at whole t i ≡ taken x e
    → content_at (text_form partial) t i ≡ taken x e
form-taken true t i e x h = (content-kept t i x e h).0
form-taken false t i e x h = h

-- and an error before the end of the text is not forgiven.
place-kept : (k : Kind) → IsPlaceKind k → is_forgiven k ≡ false
place-kept k (inl e) = ap is_forgiven e
place-kept k (inr (inl e)) = ap is_forgiven e
place-kept k (inr (inr (inl e))) = ap is_forgiven e
place-kept k (inr (inr (inr e))) = ap is_forgiven e

stop-kept : (t : List ℕ) (i x : ℕ) (k : Kind) (s : Stop) (bytes : List ℕ) (o : Bool) → StopWithin t i s → x < length t
    → text_in_form whole t i bytes o s ≡ failed k x → is_forgiven k ≡ false
stop-kept t i x k (wrong l j) bytes o w low h = let same : l ≡ k = cc in ap is_forgiven (sym same) ∙ place-kept l w.2
stop-kept t i x k (closed e) bytes o w low h =
    if_gives (utf8_valid_len bytes == length bytes) _ _ (failed k x) h (λ is z. absurd (failed-taken k x _ e (sym z)))
    (λ is z. let kind : invalid_code_point ≡ k = cc in ap is_forgiven (sym kind))
stop-kept t i x k unclosed bytes o w low h = let end : length t ≡ x = cc in absurd (omega arith)
stop-kept t i x k cut bytes o w low h = let end : length t ≡ x = cc in absurd (omega arith)

pub fault-kept : (t : List ℕ) (i x : ℕ) (k : Kind) → x < length t → content_at whole t i ≡ failed k x
    → is_forgiven k ≡ false
unfolding content_at
fault-kept t i x k low h =
    let b = body_at t i in stop-kept t i x k b.stop b.bytes b.owned (body_at-within t i) low h

-- Reading it where it begins
module _ (p : Settings) (T : List ℕ) where
  abbrev r : Rules Text Tree
  r = rules_as owned p

  unforgiven : (k : Kind) → is_forgiven k ≡ false → r.forgives k ≡ false
  unforgiven k h =
      if_case (λ (f : Kind → Bool). f k ≡ false) (is_active p.mode) is_forgiven nothing_forgiven (λ on. h) (λ off. refl)

  module _ (b : ℕ) (quote : slice_get T b ≡ Some 34) where
    scalar-is : (depth : ℕ) → depth ≤ 200
        → value_in r T depth b
        ≡ scalar_at b (seen_as (λ s e. string (owned_text s)) (content_at (value_form p.mode) T (b + 1)))
    scalar-is depth few =
        inside_at-starts r T (201 - depth) b start.String (omega arith)
        (ap start_of (get_or_from_slice_get T b 34 0 quote))

    pub scalar-done : (depth e : ℕ) (x : Text) → depth ≤ 200 → content_at (value_form p.mode) T (b + 1) ≡ taken x e
        → value_in r T depth b ≡ done (string (owned_text x)) e
    scalar-done depth e x few h =
        scalar-is depth few ∙ ap (λ c. scalar_at b (seen_as (λ s e. string (owned_text s)) c)) h

    pub key-done : (e : ℕ) (x : Text) → content_at whole T (b + 1) ≡ taken x e → r.key T b ≡ taken (owned_text x) e
    key-done e x h = ap (seen_as (λ s e. owned_text s)) h

  -- it fails,
  pub opened-fails : (o : Opened) (k : Kind) (x j : ℕ) → IsInside o → slice_get T (begin_of o) ≡ Some 34
      → is_forgiven k ≡ false → content_at (form_of p o) T (begin_of o + 1) ≡ failed k x
      → opened_to p T o j ≡ fault k x (begin_of o)
  opened-fails (between_tokens s) k x j i quote bad h = absurd i
  opened-fails (in_scalar fs b) k x j i quote bad h =
      ap (resume r T fs)
      (scalar-is b quote (length fs) i ∙ ap (λ c. scalar_at b (seen_as (λ s e. string (owned_text s)) c)) h)
      ∙ resume-fault r T fs k x b (unforgiven k bad)
  opened-fails (in_key fs ms b) k x j i quote bad h =
      key-failed r T (rules_as-advances owned p T) fs ms b x k (slice_get_within T b 34 quote) refl
      (ap (seen_as (λ s e. owned_text s)) h)
      ∙ ap (resume r T fs) (if_forgiven-no r T (λ e. r.object 0 e ms) k x b (unforgiven k bad))
      ∙ resume-fault r T fs k x b (unforgiven k bad)

-- A key that is read leads on after it.
module _ (d : Document) (v : OpenValue) (n m : Next) (t w : List ℕ) (fs : List OpenFrame) (ms : List (Text × Tree))
    (b : ℕ) (k : Text) (known : ReadSoFar n d t (in_key fs ms b)) (follows : Follows n w m) (unset : d.fault ≡ None)
    (left : IsLeft v (at_value awaits.Colon (members_frame ms k ∷ fs))) (begun : b < length (t ++ w))
    (is : IsKeyAs d m (t ++ w) b k)
    (goes : (p : Settings) (t : List ℕ) (j e : ℕ) (ms : List (Text × Tree)) (fs : List OpenFrame) → j < length t
    → (rules_as owned p).key t j ≡ taken k e
    → key_from (rules_as owned p) t fs ms j ≡ completed p t (at_value awaits.Colon (members_frame ms k ∷ fs)) e) where
  abbrev after : Opened
  after = between_tokens (at_value awaits.Colon (members_frame ms k ∷ fs))

  pub key-taken : HasTakenIn m (with_value d v) (t ++ w)
  key-taken = record {
    opened = after;
    known =
        known-as m d (with_value d v) (t ++ w) after (refl, refl, refl)
        (known-on n m d t w (in_key fs ms b) after known follows
        (λ p reading u comes.
        let low : b < length ((t ++ w) ++ u) = omega (arith, begun, length-append (t ++ w) u) in
        goes p ((t ++ w) ++ u) b (length (t ++ w)) ms fs low (is p u reading comes))
        (λ none. tt));
    held = λ e. (refl, left);
  }

-- What was read is refused with an error of the string.
pub refused-so : (n m : Next) (d : Document) (t v : List ℕ) (o : Opened) (k : Kind) (x : ℕ) → IsInside o
    → ReadSoFar n d t o → Follows n v m → is_forgiven k ≡ false
    → ((p : Settings) (u : List ℕ) → IsReading d p → MayFollow m u → slice_get ((t ++ v) ++ u) (begin_of o) ≡ Some 34)
    → ((p : Settings) (u : List ℕ) → IsReading d p → MayFollow m u
    → content_at (form_of p o) ((t ++ v) ++ u) (begin_of o + 1) ≡ failed k x)
    → IsRefused d m (t ++ v) k x
refused-so n m d t v o k x i known follows bad quote fails = λ p u r c. (
  begin_of o,
  reads-after n m d t v o p known follows r u c
      ∙ same-inside p ((t ++ v) ++ u) o (length t) (length (t ++ v)) i
      ∙ opened-fails p ((t ++ v) ++ u) o k x (length (t ++ v)) i (quote p u r c) bad (fails p u r c),
)

module _ (d : Document) (k : IsOfString d.token) (unset : d.fault ≡ None) (t : List ℕ) (h : HasTakenAll d t) where
  abbrev o : Opened
  o = h.read.opened

  held : HoldsOpened d t o
  held = h.read.held unset

  inside : IsInside o
  inside = is-inside d t k o held

  string-in : InString d.string t (begin_of o)
  string-in = is-held d t k o held

  -- Where a byte of it is wrong it is refused.
  module _ (s : PartialString) (chunk : List ℕ) (at back : ℕ) (kind : FaultKind) (there : at < length chunk)
      (goes : (w : List ℕ) → HasTaken d.string w → GoesOnWith s w chunk at (went.Wrong kind back)) where
    pub wrong-low : back ≤ d.position
    wrong-low =
        let g = goes string-in.rest string-in.taken_so in
        omega (arith, g.0, size d.string t (begin_of o) string-in, h.position)

    abbrev c : ℕ
    c = get_or chunk at 0

    here : slice_get chunk at ≡ Some c
    here = slice_get-get_or chunk at 0 there

    one : slice_range chunk at (at + 1) ≡ c ∷ []
    one = slice-one chunk at c here

    wrong-content : (form : Form) (T u : List ℕ) → T ≡ t ++ c ∷ u
        → content_at form T (begin_of o + 1) ≡ failed (fault_kind kind) (d.position - back)
    wrong-content form T u text =
        let b = begin_of o in
        let g = goes string-in.rest string-in.taken_so in
        let j = b + 1 + length string-in.rest in
        let place : j - back ≡ d.position - back = omega (arith, size d.string t b string-in, h.position) in
        g.1 T (b + 1) (rest-stand d.string t b string-in T (c ∷ u) text)
        (next-byte d.string t b string-in T u c text ∙ sym here) form
        ∙ ap (failed (fault_kind kind)) place

    pub wrong-refused : IsRefused d any_bytes (t ++ slice_range chunk at (at + 1)) (fault_kind kind) (d.position - back)
    wrong-refused =
        let text = λ (u : List ℕ). append_assoc t (c ∷ []) u in
        let T = λ (u : List ℕ). (t ++ c ∷ []) ++ u in
        let low : (u : List ℕ) → d.position - back < length (T u) =
        λ u. omega (arith, h.position, length-append t (c ∷ []), length-append (t ++ c ∷ []) u) in
        subst (λ w. IsRefused d any_bytes (t ++ w) (fault_kind kind) (d.position - back)) (sym one)
        (refused-so any_bytes any_bytes d t (c ∷ []) o (fault_kind kind) (d.position - back) inside h.read.known
        (λ u x. tt)
        (fault-kept (T []) (begin_of o + 1) (d.position - back) (fault_kind kind) (low [])
        (wrong-content whole (T []) [] (text [])))
        (λ p u r x. quote-here d.string t (begin_of o) string-in (T u) (c ∷ u) (text u))
        (λ p u r x. wrong-content (form_of p o) (T u) u (text u)))

  -- Where its quote comes next,
  module _ (none : d.string.escape ≡ None) where
    abbrev text : List ℕ
    text = d.string.text.text

    pub index-low : d.begin + 1 + length text ≤ d.position
    index-low =
        omega (arith, is-placed d t k o held, text-low d.string t (begin_of o) string-in, h.position)

    abbrev on : List ℕ → List ℕ
    on u = (t ++ 34 ∷ []) ++ u

    on-is : (u : List ℕ) → on u ≡ t ++ 34 ∷ u
    on-is u = append_assoc t (34 ∷ []) u

    end-is : length t + 1 ≡ length (t ++ 34 ∷ [])
    end-is = omega (arith, length-append t (34 ∷ []))

    quoted : (T u : List ℕ) → T ≡ t ++ 34 ∷ u → slice_get T (begin_of o) ≡ Some 34
    quoted T u is = quote-here d.string t (begin_of o) string-in T (34 ∷ u) is

    content : (partial answer : Bool) → IsClosedAs d.string partial answer → (T u : List ℕ) → T ≡ t ++ 34 ∷ u
        → content_at (text_form partial) T (begin_of o + 1)
        ≡ text_or answer (begin_of o + 1) string-in.taken_so.escaped text (length t + 1)
    content partial answer is = content-closed d.string t (begin_of o) string-in partial answer is none

    -- a text that each reading takes is the string's,
    text-is : (e : Document) (q : Opened) → IsInside q → begin_of q ≡ begin_of o
        → ((p : Settings) (u : List ℕ) → IsReading e p
        → content_at (form_of p q) (on u) (begin_of o + 1)
        ≡ text_or true (begin_of o + 1) string-in.taken_so.escaped text (length t + 1))
        → IsTextAs e any_bytes (t ++ 34 ∷ []) q text
    text-is e (between_tokens s) i same is = i
    text-is e (in_scalar fs b) i same is = λ p u r x.
        scalar-done p (on u) b (ap (slice_get (on u)) same ∙ quoted (on u) u (on-is u)) (length fs) (length t + 1) _ i
        (ap (λ b. content_at (value_form p.mode) (on u) (b + 1)) same ∙ is p u r)
        ∙ ap (done (string (text_of text))) end-is
    text-is e (in_key fs ms b) i same is = λ p u r x.
        key-done p (on u) b (ap (slice_get (on u)) same ∙ quoted (on u) u (on-is u)) (length t + 1) _
        (ap (λ b. content_at whole (on u) (b + 1)) same ∙ is p u r)
        ∙ ap (taken (text_of text)) end-is

    closed-form : (q : Opened) (p : Settings) (T : List ℕ) (i e : ℕ) (x : Text) → content_at whole T i ≡ taken x e
        → content_at (form_of p q) T i ≡ taken x e
    closed-form (between_tokens s) p T i e x h = h
    closed-form (in_scalar fs b) p T i e x h = form-taken (allows_trailing_strings p.mode) T i e x h
    closed-form (in_key fs ms b) p T i e x h = h

    pub whole-text : IsClosedAs d.string false true → IsTextAs d any_bytes (t ++ 34 ∷ []) o text
    whole-text is =
        text-is d o inside refl
        (λ p u r. closed-form o p (on u) (begin_of o + 1) (length t + 1) _ (content false true is (on u) u (on-is u)))

    -- or it is none as a whole:
    module _ (kept : Bool) (text_kept : d.token ≡ token.Text → kept ≡ allows_trailing_strings d.settings.mode)
        (key_kept : d.token ≡ token.Key → kept ≡ false) (broken : IsClosedAs d.string false false) where
      -- by each form that reads it, where the answer is the same for what is kept,
      form-closed : (answer : Bool) → IsClosedAs d.string kept answer → (q : Opened) → HoldsOpened d t q → (T u : List ℕ)
          → T ≡ t ++ 34 ∷ u → content_at (form_of d.settings q) T (begin_of o + 1)
          ≡ text_or answer (begin_of o + 1) string-in.taken_so.escaped text (length t + 1)
      form-closed answer is (between_tokens s) h T u at = absurd (no-token d.token k h.0)
      form-closed answer is (in_scalar fs b) h T u at =
          let same = text_kept (held-scalar d d.token h.0 refl k h.2).0 in
          subst (λ partial. content_at (text_form partial) T (begin_of o + 1)
          ≡ text_or answer (begin_of o + 1) string-in.taken_so.escaped text (length t + 1)) same
          (content kept answer is T u at)
      form-closed answer is (in_key fs ms b) h T u at =
          let same = key_kept h.2 in
          subst (λ partial. content_at (text_form partial) T (begin_of o + 1)
          ≡ text_or answer (begin_of o + 1) string-in.taken_so.escaped text (length t + 1)) same
          (content kept answer is T u at)

      strict-form : (q : Opened) → form_of (strictly d.settings) q ≡ whole
      strict-form (between_tokens s) = refl
      strict-form (in_scalar fs b) = refl
      strict-form (in_key fs ms b) = refl

      strict-fails : (T u : List ℕ) → T ≡ t ++ 34 ∷ u
          → content_at (form_of (strictly d.settings) o) T (begin_of o + 1)
          ≡ failed invalid_code_point (begin_of o + 1 + length text)
      strict-fails T u at =
          ap (λ f. content_at f T (begin_of o + 1)) (strict-form o) ∙ content false false broken T u at

      -- where it is none of what is kept it is refused,
      module _ (index : ℕ) (place : index ≡ d.begin + 1 + length text) where
        index-is : begin_of o + 1 + length text ≡ index
        index-is = omega (arith, is-placed d t k o held, place)

        pub closed-refused : IsClosedAs d.string kept false
            → IsRefused d any_bytes (t ++ 34 ∷ []) invalid_code_point index
        closed-refused is =
            refused-so any_bytes any_bytes d t (34 ∷ []) o invalid_code_point index inside h.read.known (λ u x. tt) refl
            (λ p u r x. quoted (on u) u (on-is u)) (λ p u r x. by p u r ∙ ap (failed invalid_code_point) index-is) where
              by : (p : Settings) (u : List ℕ) → IsReading d p
                  → content_at (form_of p o) (on u) (begin_of o + 1)
                  ≡ failed invalid_code_point (begin_of o + 1 + length text)
              by p u (by_mode, same, none) =
                  subst (λ q. content_at (form_of q o) (on u) (begin_of o + 1)
                  ≡ failed invalid_code_point (begin_of o + 1 + length text)) (sym same)
                  (form-closed false is o held (on u) u (on-is u))
              by p u (strict, same, none) =
                  subst (λ q. content_at (form_of q o) (on u) (begin_of o + 1)
                  ≡ failed invalid_code_point (begin_of o + 1 + length text)) (sym same)
                  (strict-fails (on u) u (on-is u))

        -- and else noted.
        abbrev noted : Document
        noted = with_first d (noted_in d.first fault_of.InvalidUnicodeCodePoint index)

        is-kept : (partial : Bool) → IsClosedAs d.string partial true → partial ≡ true
        is-kept true is = refl
        is-kept false is =
            absurd (failed-taken _ _ _ _ (sym (content false false broken (on []) [] (on-is []))
            ∙ content false true is (on []) [] (on-is [])))

        not-off : (mode : PartialMode) → allows_trailing_strings mode ≡ true → is_active mode ≡ false → ⊥
        not-off Off on off = absurd (false≢true on)
        not-off On on off = absurd (false≢true on)
        not-off TrailingStrings on off = absurd (false≢true (sym off))

        on-mode : IsOfString d.token → kept ≡ true → is_active d.settings.mode ≡ false → ⊥
        on-mode (inl x) on off = not-off d.settings.mode (sym (text_kept x) ∙ on) off
        on-mode (inr x) on off = absurd (false≢true (sym (key_kept x) ∙ on))

        strict-noted : (u : List ℕ) → MayFollow (with_byte 34) u → (f : Option Fault)
            → ReadsAt (strictly d.settings) t u f o
            → ReadsAt (strictly d.settings) t u (noted_in f fault_of.InvalidUnicodeCodePoint index) o
        strict-noted u c (Some f) reads = reads
        strict-noted u c None reads =
            let T = t ++ u in
            let at : T ≡ t ++ 34 ∷ c.0 = ap (λ x. t ++ x) c.1 in
            let r = rules_as owned (strictly d.settings) in (
              begin_of o,
              whole-is r T
                  ∙ ap (to_end T) (reads ∙ opened-fails (strictly d.settings) T o invalid_code_point index (length t) inside
                  (quoted T c.0 at) refl (strict-fails T c.0 at ∙ ap (failed invalid_code_point) index-is)),
            )

        reads-noted : (by : Strictness) (u : List ℕ) → MayFollow (with_byte 34) u
            → ReadsAt (settings_by by noted.settings) t u (fault_by by noted.fault noted.first) o
        reads-noted by_mode u c = h.read.known.reads by_mode u tt
        reads-noted strict u c = strict-noted u c d.first (h.read.known.reads strict u tt)

        module _ (is : IsClosedAs d.string kept true) where
          pub noted-known : ReadSoFar (with_byte 34) noted t o
          noted-known = record {
            reads = reads-noted;
            ends = λ e. ends-inside t o inside;
            noted = λ e. absurd (noted-some d.first fault_of.InvalidUnicodeCodePoint index e);
            same = λ off e. absurd (on-mode k (is-kept kept is) off);
          }

          pub noted-held : HoldsOpened noted t o
          noted-held =
              subst (λ t. HoldsOpened noted t o) (append-nil t)
              (goes-on d t k d.string (noted_in d.first fault_of.InvalidUnicodeCodePoint index) []
              (λ w x. subst (HasTaken d.string) (sym (append-nil w)) x) o held)

          noted-reading : (p : Settings) → IsReading noted p → p ≡ d.settings
          noted-reading p (by_mode, same, none) = same
          noted-reading p (strict, same, none) =
              absurd (noted-some d.first fault_of.InvalidUnicodeCodePoint index none)

          pub noted-text : IsTextAs noted any_bytes (t ++ 34 ∷ []) o text
          noted-text =
              text-is noted o inside refl
              (λ p u r. subst (λ q. content_at (form_of q o) (on u) (begin_of o + 1)
              ≡ text_or true (begin_of o + 1) string-in.taken_so.escaped text (length t + 1))
              (sym (noted-reading p r)) (form-closed true is o held (on u) u (on-is u)))
