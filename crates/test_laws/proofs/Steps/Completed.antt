-- Which texts can be completed before their error, by computation: each kind that can go on, and for each other kind a
-- text that cannot.
use Rattle.std.proofs.Common.{◌≡◌, ◌≢◌, ◌⊎◌, inl, inr, ℕ, ◌+◌, ◌≤◌, Bool, true, false, not, List, [], ◌∷◌, ◌++◌}
use Rattle.std.proofs.Common.{length, take, drop, refl, sym, ap, ◌∙◌, subst, arith, codes, map, append_assoc}
use Rattle.std.proofs.Common.{append-nil}
use Rattle.std.specs.Prelude.{Some, replicate, slice_range}
use Rattle.std.proofs.lemmas.Bool.{false≢true}
use Rattle.std.proofs.lemmas.List.{take-append-drop, take_all}
use Rattle.jiter_scan.specs.Kind.{Kind, is_end_kind, eof_list, eof_object, eof_string, eof_value, expected_colon}
use Rattle.jiter_scan.specs.Kind.{expected_list_comma_or_end, expected_object_comma_or_end, expected_ident}
use Rattle.jiter_scan.specs.Kind.{expected_value, invalid_escape, invalid_number, number_out_of_range}
use Rattle.jiter_scan.specs.Kind.{invalid_code_point, control_character, key_must_be_a_string, lone_surrogate}
use Rattle.jiter_scan.specs.Kind.{trailing_comma, trailing_characters, end_of_hex_escape, recursion_limit}
use Rattle.jiter_scan.specs.Scanned.{failed}
use Rattle.jiter_scan.specs.Stands.{Stands}
use Rattle.jiter_scan.proofs.Standing.{stands-slice}
use Rattle.jiter_steps.specs.Answer.{seen_as, whole_trees, answer}
use Rattle.jiter_steps.specs.FirstFault.{BeginsNoDocument, AreClosers, IsFiller, can_go_on, CanBeCompleted}
use Rattle.jiter_steps.specs.Node.{Node, IsDocument}
use Rattle.jiter_steps.specs.Read.{Reading, done, fault, scalar_at}
use Rattle.jiter_steps.specs.StringReading.{Body, before, over, unclosed, whole, text_in_form, content_at, string_at}
use Rattle.jiter_steps.specs.Tree.{Text, Tree}
use Rattle.jiter_steps.specs.Tree as tree
use Rattle.jiter_steps.proofs.Reading.WholeTexts.{whole-fault}
use Rattle.jiter_steps.proofs.Grammar.Blanks.{past_blanks-other}
use Rattle.jiter_steps.proofs.Reading.Bodies.{body_at-event_by, event_by-end}
use Rattle.jiter_steps.proofs.Fault.Dead.{dead}
use Rattle.jiter_steps.proofs.Grammar.Documents.{answer-of}
use Rattle.jiter_steps.proofs.Computed.{computed_readings}
use Rattle.test_laws.proofs.Steps.FirstFault.{fault_of, is_done, is_document}
use Rattle.test_laws.proofs.Steps.Trees.{times}
use Rattle.jiter_steps.proofs.Grammar.StringComplete.{IsPrinted, ArePrinted, bytes-read}

-- Each kind that can go on: a text, its error's kind and index, and the filler and the closers that complete the bytes
-- before the index.
abbrev completed : List (List ℕ × Kind × ℕ × List ℕ × List ℕ)
completed =
    (codes "[1}", expected_list_comma_or_end, 2, [], codes "]") ∷
    (codes "{\"a\":1 \"b\"}", expected_object_comma_or_end, 7, [], codes "}") ∷
    (codes "[{\"a\":x", expected_value, 6, codes "0", codes "}]") ∷
    (codes "[NaN]", expected_value, 1, codes "0", codes "]") ∷
    (codes "{1:2}", key_must_be_a_string, 1, [], codes "}") ∷
    (codes "{\"a\":1,2", key_must_be_a_string, 7, codes "\"\":0", codes "}") ∷
    (codes "[1, ]", trailing_comma, 4, codes "0", codes "]") ∷
    (codes "{\"a\":1,}", trailing_comma, 7, codes "\"\":0", codes "}") ∷
    (codes "1 2", trailing_characters, 2, [], []) ∷
    (codes "[[1", eof_list, 3, [], codes "]]") ∷
    (codes "[-x", invalid_number, 2, codes "0", codes "]") ∷
    (codes "01", invalid_number, 1, [], []) ∷
    (codes "1.e", invalid_number, 2, codes "0", []) ∷
    (codes "1e+x", invalid_number, 3, codes "0", []) ∷
    []

completed_document : (map (λ r. fault_of (answer false r.0)) completed ≡ map (λ r. Some (r.1, r.2)) completed)
    × (map (λ r. can_go_on r.1) completed ≡ map (λ r. true) completed)
    × (map (λ r. is_document (take r.2 r.0 ++ (r.3 ++ r.4))) completed ≡ map (λ r. true) completed)
completed_document = unfold computed_readings in (refl, refl, refl)

-- the kinds that say that no document begins so
abbrev says_dead : Kind → Bool
says_dead invalid_code_point = false
says_dead k = not (is_end_kind k)

says_dead-sound : (k : Kind) → says_dead k ≡ true → (is_end_kind k ≡ false) × (k ≢ invalid_code_point)
says_dead-sound invalid_code_point h = absurd (false≢true h)
says_dead-sound k h = (cc, λ e. cc)

abbrev stops : Reading Tree → Bool
stops (done a e) = false
stops (fault k i stop) = says_dead k

abbrev is_dead : List ℕ → Bool
is_dead t = stops (answer false t)

no_document : (t : List ℕ) (n : Node) → not (is_document t) ≡ true → IsDocument false t n → ⊥
no_document t n h d = false≢true (ap (λ y. not (is_done y)) (sym (answer-of false t n d)) ∙ h)

stops-sound : (t : List ℕ) (y : Reading Tree) → answer false t ≡ y → stops y ≡ true → BeginsNoDocument false t
stops-sound t (done a e) is h = absurd (false≢true h)
stops-sound t (fault k i stop) is h = λ rest n d.
    let kind = says_dead-sound k h in
    let prefix = take (i + 1) t in
    let back = drop (i + 1) t in
    let all = ap (λ w. w ++ rest) (sym (take-append-drop (i + 1) t)) ∙ append_assoc prefix back rest in
    dead false t k i stop is kind.0 kind.1 (back ++ rest) n (subst (λ w. IsDocument false w n) all d)

-- a text that begins with bytes that begin no document
begins-dead : (prefix w rest : List ℕ) (n : Node) → is_dead (prefix ++ w) ≡ true
    → IsDocument false (prefix ++ (w ++ rest)) n → ⊥
begins-dead prefix w rest n h d =
    stops-sound (prefix ++ w) _ refl h rest n (subst (λ l. IsDocument false l n) (sym (append_assoc prefix w rest)) d)

-- These bytes are no document, and with a filler or a closer after them no document begins so.
abbrev is_over : List ℕ → List Bool
is_over prefix =
    not (is_document prefix) ∷ map (λ w. is_dead (prefix ++ w)) (codes "0" ∷ codes "\"\":0" ∷ codes "]" ∷ codes "}" ∷ [])

abbrev Nowhere : List ℕ → Type 0
Nowhere prefix = is_over prefix ≡ replicate 5 true

closers-nowhere : (prefix cs : List ℕ) (n : Node) → AreClosers cs → Nowhere prefix → IsDocument false (prefix ++ cs) n → ⊥
closers-nowhere prefix [] n all h d = no_document prefix n (cc) (subst (λ l. IsDocument false l n) (append-nil prefix) d)
closers-nowhere prefix (c ∷ cs) n all h d = by all.0 where
  by : ((c ≡ 93) ⊎ (c ≡ 125)) → ⊥
  by (inl e) = begins-dead prefix (codes "]") cs n (cc) (rw e at d)
  by (inr e) = begins-dead prefix (codes "}") cs n (cc) (rw e at d)

-- No filler and closers complete such bytes.
nowhere-sound : (prefix : List ℕ) → Nowhere prefix → CanBeCompleted false prefix → ⊥
nowhere-sound prefix h c = by c.filler c.is_filler c.document where
  by : (w : List ℕ) → IsFiller w → IsDocument false (prefix ++ (w ++ c.closers)) c.node → ⊥
  by w (inl e) d = closers-nowhere prefix c.closers c.node c.are_closers h (rw e at d)
  by w (inr (inl e)) d = begins-dead prefix (codes "0") c.closers c.node (cc) (rw e at d)
  by w (inr (inr e)) d = begins-dead prefix (codes "\"\":0") c.closers c.node (cc) (rw e at d)

-- The other kinds: a text, its error's kind and index, and the bytes before it cannot be completed.
abbrev not_completed : List (List ℕ × Kind × ℕ)
not_completed =
    (codes "{\"a\"", eof_object, 4) ∷
    (codes "\"\\", eof_string, 2) ∷
    (codes "tr", eof_value, 2) ∷
    (codes "{\"a\"}", expected_colon, 4) ∷
    (codes "tx", expected_ident, 1) ∷
    (codes "\"\\x\"", invalid_escape, 2) ∷
    (replicate 4301 49, number_out_of_range, 4301) ∷
    (codes "\"a\\n" ++ 255 ∷ codes "\"", invalid_code_point, 3) ∷
    (codes "\"\\udc00\"", lone_surrogate, 6) ∷
    (codes "\"\\ud83dx\"", end_of_hex_escape, 7) ∷
    (times 200 (codes "[") ++ codes "{\"a\":1", recursion_limit, 205) ∷
    []

not_completed_nowhere :
    (map (λ r. fault_of (answer false r.0)) not_completed ≡ map (λ r. Some (r.1, r.2)) not_completed)
    × (map (λ r. can_go_on r.1) not_completed ≡ map (λ r. false) not_completed)
    × (map (λ r. is_over (take r.2 r.0)) not_completed ≡ map (λ r. replicate 5 true) not_completed)
not_completed_nowhere = unfold computed_readings in (refl, refl, refl)

abbrev NoneCompleted : List (List ℕ × Kind × ℕ) → Type 0
NoneCompleted [] = Unit {0}
NoneCompleted (r ∷ rows) = (CanBeCompleted false (take r.2 r.0) → ⊥) × NoneCompleted rows

none_completed-from : (rows : List (List ℕ × Kind × ℕ))
    → map (λ r. is_over (take r.2 r.0)) rows ≡ map (λ r. replicate 5 true) rows → NoneCompleted rows
none_completed-from [] h = tt
none_completed-from (r ∷ rows) h = (nowhere-sound (take r.2 r.0) (cc), none_completed-from rows (cc))

none_completed : NoneCompleted not_completed
none_completed = none_completed-from not_completed not_completed_nowhere.2

-- A control character: after a quote that no other follows no string ends, and two quotes are a whole string.
partial_string-reads : (w : List ℕ) → ArePrinted w
    → string_at whole (34 ∷ w) 0 ≡ failed eof_string (length (34 ∷ w))
unfolding content_at
partial_string-reads w printed =
    let t = 34 ∷ w in
    let range : slice_range t 1 (1 + length w) ≡ w =
    ap (λ n. take n w) (omega arith) ∙ take_all (length w) w (omega arith) in
    let slice = stands-slice t 1 (1 + length w) (omega arith) (omega arith) in
    let stands = subst (Stands t 1 (1 + length w)) range slice in
    let last = body_at-event_by t (1 + length w) (over unclosed) (event_by-end t (1 + length w) (omega arith)) in
    let body = bytes-read t 1 (1 + length w) w printed stands ∙ ap (before w false) last in
    ap (λ (b : Body). text_in_form whole t 1 b.bytes b.owned b.stop) body

partial_string-none : (w : List ℕ) (n : Node) → ArePrinted w → IsDocument false (34 ∷ w) n → ⊥
partial_string-none w n printed d =
    let t = 34 ∷ w in
    let names = false in
    let start = past_blanks-other t 0 (omega arith) refl in
    let value = ap (λ x. scalar_at 0 (seen_as (λ (s : Text) (e : ℕ). tree.string s) x)) (partial_string-reads w printed) in
    let fault_is = whole-fault (whole_trees false) t 0 eof_string (length t) 0 start (omega arith) value in
    let clash = sym fault_is ∙ answer-of false t n d in
    cc

printed : (c : ℕ) → 35 ≤ c → c ≢ 92 → IsPrinted c
printed c least other = record { printed = omega arith; no_quote = λ q. omega arith; no_backslash = other }

closers-printed : (cs : List ℕ) → AreClosers cs → ArePrinted cs
closers-printed [] h = tt
closers-printed (c ∷ cs) h = (by h.0, closers-printed cs h.1) where
  by : ((c ≡ 93) ⊎ (c ≡ 125)) → IsPrinted c
  by (inl e) = printed c (omega arith) (λ q. omega arith)
  by (inr e) = printed c (omega arith) (λ q. omega arith)

control_answer : (fault_of (answer false (34 ∷ 31 ∷ [])) ≡ Some (control_character, 1))
    × (is_dead (34 ∷ codes "\"\":0") ≡ true)
control_answer = unfold computed_readings in (refl, refl)

quote_completed : CanBeCompleted false (34 ∷ []) → ⊥
quote_completed c = by c.filler c.is_filler c.document where
  cs : ArePrinted c.closers
  cs = closers-printed c.closers c.are_closers

  by : (w : List ℕ) → IsFiller w → IsDocument false (34 ∷ (w ++ c.closers)) c.node → ⊥
  by w (inl e) d = partial_string-none c.closers c.node cs (rw e at d)
  by w (inr (inl e)) d =
      let zero = printed 48 (omega arith) (λ q. omega arith) in
      partial_string-none (48 ∷ c.closers) c.node (zero, cs) (rw e at d)
  by w (inr (inr e)) d = begins-dead (34 ∷ []) (codes "\"\":0") c.closers c.node control_answer.1 (rw e at d)
