-- What the fast path returns, in the words of the replies.
use Rattle.jiter.proofs.Words.{◌≡◌, ◌∙◌, ◌∷◌, ℕ, ◌+◌, ◌<◌, ◌≤◌, Bool, true, List, length, refl, ap, sym, subst, arith}
use Rattle.jiter.proofs.Words.{Ok, Err, slice_get, slice_index, slice_range, Option, Some, Result, nat_tests}
use Rattle.jiter.proofs.Words.{get_or_from_slice_get, slice_get-get_or, slice_get_within, ScalarWithin, fault_kind}
use Rattle.jiter.proofs.Words.{number_at, with_value, Scanned, taken, failed, seen_as, start_of, ReadError, colon, more}
use Rattle.jiter.proofs.Words.{step, WantsMemory, between, Form, string_at, text_form, whole, Text, past_blanks-after}
use Rattle.jiter.proofs.Words.{string_at-within, false, IsErrorAt, MovesOn, key_bytes, reply_seen, text_bytes}
use Rattle.jiter.proofs.Words.{ReaderState, Refusal, gave, refused, scalar_reply, colon_reply, key_reply}
use Rattle.jiter.proofs.Words.{with_position, value_place, next, if_byte, member_reply, number_bytes_read, str_read}
use Rattle.jiter.proofs.Words.{Reads, never, string_memory, JiterError, option_map}
use Rattle.std.proofs.Common.{Bor}
use Rattle.std.specs.Prelude.{IfOk}
use Rattle.jiter_scan.proofs.NumberBytes.{number-begins}
use Rattle.jiter_scan.proofs.NumberSound.{number_span-sound}
use Rattle.jiter_scan.proofs.Standing.{slice-stands, stands-slice}
use Rattle.jiter_scan.specs.Number.{IsNumberText}
use Rattle.jiter_scan.specs.NumberReading.{begins_number, number_span}
use Rattle.jiter_scan.specs.Scanned.{Scans}
use Rattle.jiter_steps.proofs.Grammar.Blanks.{past_blanks-above}
use Rattle.jiter_steps.specs.Words.{past_blanks}
use Rattle.jiter_steps.specs.declared.parse.Start.TheVariants as start
use Rattle.jiter_steps.specs.declared.read_error.ReadError.TheVariants as error
use Rattle.jiter_steps.specs.ReadError.{UnlessRefused}
use Rattle.jiter.specs.Jiter.{BeginsAt}
use Rattle.jiter.proofs.Refusals.{refusal-failed, scalar-within}

-- a number's bytes, by its end
pub number-bytes : (names : Bool) (t : List ℕ) (i e : ℕ) → number_span names t i ≡ taken tt e
    → scalar_reply i (seen_as (λ n e. slice_range t i e) (number_at names t i)) ≡ gave (slice_range t i e) e
unfolding number_at
number-bytes names t i e h = ap (λ x. scalar_reply i (seen_as (λ n e. slice_range t i e) (with_value t i x))) h

-- the key that was read at i
scalar-taken : {A : Type 0} (i : ℕ) (x : Scanned A) (a : A) (e : ℕ) → scalar_reply i x ≡ gave a e → x ≡ taken a e
scalar-taken i (taken b d) a e h = cc
scalar-taken i (failed k j) a e h = absurd (cc)

-- Of a key at i and its colon, from the key's end on.
pub colon-read : {Y : Type 0} {view : Y → Option Text} {s0 s1 s2 : ReaderState} (x : Result Y JiterError) (f : Form)
    (i : ℕ) (key : Text) (y : Y) → MovesOn s0 s1 → string_at f s0.text i ≡ taken key s1.position → view y ≡ Some key
    → IfOk x (λ k. k ≡ y) → Reads never (λ (k : Y). Some key) (colon_reply key (step s1.text colon s1.position)) x s1 s2
    → Reads never view (member_reply f s0.text (more i)) x s0 s2
colon-read {Y = Y} {view = view} {s0 = s0} {s1 = s1} {s2 = s2} x f i key y m read seen is h = by x is h where
  text : s1.text ≡ s0.text
  text = ap (λ (v : ReaderState). v.text) m.same

  reply : member_reply f s0.text (more i) ≡ colon_reply key (step s1.text colon s1.position)
  reply = ap (key_reply s0.text i) read ∙ ap (λ t. colon_reply key (step t colon s1.position)) (sym text)

  moves : MovesOn s1 s2 → MovesOn s0 s2
  moves n = record {
    same = n.same ∙ ap (λ (v : ReaderState). with_position v s2.position) m.same;
    forward = omega (arith, m.forward, n.forward);
    within = omega (arith, n.within, ap length text);
  }

  by : (x : Result Y JiterError) → IfOk x (λ k. k ≡ y)
      → Reads never (λ (k : Y). Some key) (colon_reply key (step s1.text colon s1.position)) x s1 s2
      → Reads never view (member_reply f s0.text (more i)) x s0 s2
  by (Ok k) is h = record {
    moves = moves h.moves;
    value = reply ∙ h.value ∙ ap (λ o. gave o s2.position) (sym (ap view is ∙ seen));
    index = tt;
    memory = tt;
  }
  by (Err e) is h = record {
    moves = moves h.moves;
    value = reply ∙ h.value;
    index = omega (arith, h.index, ap length text);
    memory = h.memory;
  }

-- where the key was read by a call that went there first
pub key-read : {Y : Type 0} {view : Y → Option Text} {s1 s2 : ReaderState} (u s0 : ReaderState) (x : Result Y JiterError)
    (f : Form) (i : ℕ) (key : Text) (y : Y) (from : ℕ) → u ≡ s0 → s0.position ≤ i → MovesOn (with_position u i) s1
    → scalar_reply i (string_at f u.text i) ≡ gave key s1.position → from ≡ s1.position → view y ≡ Some key
    → IfOk x (λ k. k ≡ y) → Reads never (λ (k : Y). Some key) (colon_reply key (step s1.text colon from)) x s1 s2
    → Reads never view (member_reply f s0.text (more i)) x s0 s2
key-read {Y = Y} {view = view} {s1 = s1} {s2 = s2} u s0 x f i key y from is ahead m read place seen ok h =
    subst P is by-u ahead where
      P : ReaderState → Type 0
      P s = s.position ≤ i → Reads never view (member_reply f s.text (more i)) x s s2

      by-u : P u
      by-u ahead = colon-read x f i key y
          (record { same = m.same; forward = omega (arith, ahead, m.forward); within = m.within })
          (scalar-taken i _ _ _ read) seen ok
          (subst (λ j. Reads never (λ (k : Y). Some key) (colon_reply key (step s1.text colon j)) x s1 s2) place h)

-- a plain key, and its colon
pub plain-key : (x : Result (Option (Bor (List ℕ))) JiterError) {s : ReaderState} (u s0 : ReaderState) (i e : ℕ)
    (key : Bor (List ℕ)) → u ≡ s0 → string_at whole u.text i ≡ taken (record { owned = false; bytes = key.now }) e
    → IfOk x (λ k. k ≡ Some key)
    → ((text : Text) → Reads never (λ (k : Option (Bor (List ℕ))). Some text) (colon_reply text (step s0.text colon e)) x s0 s)
    → Reads never (option_map (λ (b : Bor (List ℕ)). b.now)) (reply_seen key_bytes (member_reply whole s0.text (more i))) x s0 s
plain-key x {s = s} u s0 i e key is read ok h = by x ok (h text) where
  text : Text
  text = record { owned = false; bytes = key.now }

  reply : member_reply whole s0.text (more i) ≡ colon_reply text (step s0.text colon e)
  reply = ap (key_reply s0.text i) (subst (λ (v : ReaderState). string_at whole v.text i ≡ taken text e) is read)

  by : (x : Result (Option (Bor (List ℕ))) JiterError) → IfOk x (λ k. k ≡ Some key)
      → Reads never (λ (k : Option (Bor (List ℕ))). Some text) (colon_reply text (step s0.text colon e)) x s0 s
      → Reads never (option_map (λ (b : Bor (List ℕ)). b.now)) (reply_seen key_bytes (member_reply whole s0.text (more i))) x
      s0 s
  by (Ok k) is h = record {
    moves = h.moves;
    value = ap (reply_seen key_bytes) (reply ∙ h.value)
        ∙ ap (λ (o : Option (Bor (List ℕ))). gave (option_map (λ (b : Bor (List ℕ)). b.now) o) s.position) (sym is);
    index = tt;
    memory = tt;
  }
  by (Err e) is h = record {
    moves = h.moves;
    value = ap (reply_seen key_bytes) (reply ∙ h.value);
    index = h.index;
    memory = h.memory;
  }

slice-first : (t : List ℕ) (b e : ℕ) → b < e → e ≤ length t
    → slice_range t b e ≡ slice_index t b ∷ slice_range t (b + 1) e
slice-first t b e h le =
    let here = slice_get-get_or t b 0 (omega arith) in
    let rest = stands-slice t (b + 1) e (omega arith) le in
    sym (slice-stands t b e (slice_index t b ∷ slice_range t (b + 1) e) (here, rest))

number-start : (c : ℕ) → begins_number c ≡ true → start_of c ≡ start.Number
number-start c e = grind (arith, nat_tests, e)

-- what ends as a number begins as one
pub number-starts : (names : Bool) (t : List ℕ) (i e : ℕ) → i < e → e ≤ length t
    → number_span names t i ≡ taken tt e → start_of (slice_index t i) ≡ start.Number
number-starts names t i e some within h =
    let text = subst (IsNumberText names) (slice-first t i e some within) (number_span-sound t names i e h) in
    number-start (slice_index t i) (number-begins names (slice_index t i) (slice_range t (i + 1) e) text)

-- no whitespace is before a number
pub number-place : (names : Bool) (t : List ℕ) (i e : ℕ) → i < e → e ≤ length t → number_span names t i ≡ taken tt e
    → i ≡ past_blanks t i
number-place names t i e some within h =
    let text = subst (IsNumberText names) (slice-first t i e some within) (number_span-sound t names i e h) in
    let begins = number-begins names (slice_index t i) (slice_range t (i + 1) e) text in
    sym (past_blanks-above t i (omega arith) (grind (arith, nat_tests, begins)))

-- The next value is the number from i to e.
pub number-read : (v s : ReaderState) (i e b : ℕ) (bytes : Bor (List ℕ)) → v ≡ s → i ≡ value_place v
    → slice_get v.text i ≡ Some b → i < e → e ≤ length v.text → number_span v.names v.text i ≡ taken tt e
    → bytes.now ≡ slice_range v.text i e
    → Reads never (λ (x : Bor (List ℕ)). x.now) (next s (number_bytes_read s)) (Ok bytes) s (with_position v e)
number-read v s i e b bytes is = subst P (sym is) here where
  P : ReaderState → Type 0
  P v = i ≡ value_place v → slice_get v.text i ≡ Some b → i < e → e ≤ length v.text
      → number_span v.names v.text i ≡ taken tt e → bytes.now ≡ slice_range v.text i e
      → Reads never (λ (x : Bor (List ℕ)). x.now) (next s (number_bytes_read s)) (Ok bytes) s (with_position v e)

  here : P s
  here place byte ahead within h same =
      let there : slice_get s.text (value_place s) ≡ Some b = ap (slice_get s.text) (sym place) ∙ byte in
      let begins : start_of b ≡ start.Number =
      ap start_of (sym (get_or_from_slice_get s.text i b 0 byte)) ∙ number-starts s.names s.text i e ahead within h in
      let first = past_blanks-after s.text s.position in
      record {
        moves = record { same = refl; forward = omega (arith, first, place, ahead); within = within };
        value = ap (λ o. if_byte (value_place s) o (λ c. number_bytes_read s (value_place s) (start_of c))) there
            ∙ ap (number_bytes_read s (value_place s)) begins
            ∙ ap (λ j. number_bytes_read s j start.Number) (sym place)
            ∙ number-bytes s.names s.text i e h ∙ ap (λ x. gave x e) (sym same);
        index = tt;
        memory = tt;
      }

-- The next value is the string at i.
pub next-string : (s : ReaderState) (i : ℕ) → i ≡ value_place s → slice_get s.text i ≡ Some 34
    → next s (str_read s) ≡ scalar_reply i (string_at (text_form s.partial_strings) s.text i)
next-string s i place quote =
    let here : slice_get s.text (value_place s) ≡ Some 34 = ap (slice_get s.text) (sym place) ∙ quote in
    ap (λ o. if_byte (value_place s) o (λ c. str_read s (value_place s) (start_of c))) here
    ∙ ap (λ j. scalar_reply j (string_at (text_form s.partial_strings) s.text j)) (sym place)

-- It is returned.
pub string-given : {X : Type 0} (view : X → Text) (a : X) (v s : ReaderState) (i e : ℕ) → v ≡ s → i ≡ value_place s
    → slice_get s.text i ≡ Some 34 → string_at (text_form v.partial_strings) v.text i ≡ taken (view a) e
    → Reads (string_memory s.text (value_place s)) view (next s (str_read s)) (Ok a) s (with_position v e)
string-given view a v s i e is place quote = subst P (sym is) here where
  P : ReaderState → Type 0
  P v = string_at (text_form v.partial_strings) v.text i ≡ taken (view a) e
      → Reads (string_memory s.text (value_place s)) view (next s (str_read s)) (Ok a) s (with_position v e)

  here : P s
  here h =
      let inside = slice_get_within s.text i 34 quote in
      let at = subst (ScalarWithin s.text i) h (string_at-within (text_form s.partial_strings) s.text i inside) in
      let ahead = past_blanks-after s.text s.position in
      record {
        moves = record { same = refl; forward = omega (arith, ahead, place, at.0); within = at.1 };
        value = next-string s i place quote ∙ ap (scalar_reply i) h;
        index = tt;
        memory = tt;
      }

-- Its bytes are, borrowed from somewhere.
pub decoded : (v s : ReaderState) (i e : ℕ) (x : Text) (text : Bor (List ℕ)) → v ≡ s → i ≡ value_place s
    → slice_get s.text i ≡ Some 34 → string_at (text_form v.partial_strings) v.text i ≡ taken x e → text.now ≡ x.bytes
    → Reads (string_memory s.text (value_place s)) (λ (b : Bor (List ℕ)). b.now)
    (reply_seen text_bytes (next s (str_read s))) (Ok text) s (with_position v e)
decoded v s i e x text is place quote h bytes =
    let read = string-given (λ y. y) x v s i e is place quote h in
    record {
      moves = read.moves;
      value = ap (reply_seen text_bytes) read.value ∙ ap (λ b. gave b e) (sym bytes);
      index = tt;
      memory = tt;
    }

-- It has a backslash and is not decoded: its error, or no memory.
pub undecoded : {X A : Type 0} (view : X → List ℕ) (seen : A → Scanned Text) (v s : ReaderState) (i : ℕ) (x : ReadError)
    (e : JiterError) → v ≡ s → i ≡ value_place s → slice_get s.text i ≡ Some 34 → WantsMemory s.text i → IsErrorAt x i e
    → UnlessRefused (Err x) (λ r. Scans seen r (string_at (text_form v.partial_strings) v.text i))
    → Reads (string_memory s.text (value_place s)) view (reply_seen text_bytes (next s (str_read s))) (Err e) s
    (with_position v i)
undecoded view seen v s i x e is place quote needs wrong = subst P (sym is) (by x wrong) where
  P : ReaderState → Type 0
  P v = UnlessRefused (Err x) (λ r. Scans seen r (string_at (text_form v.partial_strings) v.text i))
      → Reads (string_memory s.text (value_place s)) view (reply_seen text_bytes (next s (str_read s))) (Err e) s
      (with_position v i)

  inside : i < length s.text
  inside = slice_get_within s.text i 34 quote

  moves : MovesOn s (with_position s i)
  moves =
      let ahead = past_blanks-after s.text s.position in
      record { same = refl; forward = omega (arith, ahead, place); within = omega (arith, inside) }

  by : (x : ReadError) → IsErrorAt x i e
      → UnlessRefused (Err x) (λ r. Scans seen r (string_at (text_form s.partial_strings) s.text i))
      → Reads (string_memory s.text (value_place s)) view (reply_seen text_bytes (next s (str_read s))) (Err e) s
      (with_position s i)
  by (error.Fault f) is h =
      let at = string_at-within (text_form s.partial_strings) s.text i inside in
      let fails = refusal-failed s.text (fault_kind f.kind) f.index e is _ (scalar-within s.text i _ at) h in
      record {
        moves = moves;
        value = λ m. ap (reply_seen text_bytes) (next-string s i place quote ∙ ap (scalar_reply i) h)
            ∙ ap (λ (r : Refusal). refused r.cause r.index i) (sym is);
        index = fails.within;
        memory = λ m. absurd (fails.bytes m);
      }
  by (error.Memory m) is h =
      let cause = ap (λ (r : Refusal). r.cause) is in
      let index : e.index ≡ i = ap (λ (r : Refusal). r.index) is in
      record {
        moves = moves;
        value = λ bytes. absurd (bytes cause);
        index = omega (arith, inside, index);
        memory = λ m. (
          sym index,
          (
            index ∙ place,
            subst (λ j. BeginsAt s.text j start.String) place
                (ap start_of (get_or_from_slice_get s.text i 34 0 quote)),
            subst (WantsMemory s.text) place needs,
          ),
        );
      }

-- The text of a string whose closing quote is at e, as it is in the document.
pub plain-closed : (t : List ℕ) (i e : ℕ) (text : List ℕ) → text ≡ slice_range t (i + 1) e
    → ((partial : Bool) → string_at (text_form partial) t i ≡ taken (between t (i + 1) e) (e + 1)) → (partial : Bool)
    → string_at (text_form partial) t i ≡ taken (record { owned = false; bytes = text }) (e + 1)
plain-closed t i e text is read partial =
    read partial ∙ ap (λ (w : List ℕ). taken (record { owned = false; bytes = w }) (e + 1)) (sym is)
