-- What the bytes of a document answer that have arrived so far, of which the unfinished scalar may be in the value.
use Rattle.jiter_incremental.proofs.Innermost.{inside-of, utf8-of}
use Rattle.jiter_incremental.proofs.Words.{◌≡◌, ℕ, ◌+◌, ◌≤◌, Bool, true, false, List, [], ◌∷◌, ◌++◌, length, refl, sym}
use Rattle.jiter_incremental.proofs.Words.{subst, ap, ◌∙◌, arith, ◌&&◌, ◌||◌, not, is_some, option_map, Option, Some}
use Rattle.jiter_incremental.proofs.Words.{None, IsUtf8, false≢true, none-some, same_Some, if-true, if-false, Kind}
use Rattle.jiter_incremental.proofs.Words.{fault_kind, allows_trailing_strings, is_active, is_whole, Fault, FaultKind}
use Rattle.jiter_incremental.proofs.Words.{items_frame, members_frame, HasTaken, text_or, prefix_answer, end_kind_of}
use Rattle.jiter_incremental.proofs.Words.{content_at, kept, Tree, ContainerKind, PartialString, ended, Arrived, IsLeft}
use Rattle.jiter_incremental.proofs.Words.{OpenValue, at_end, at_value, between_parts, end_of, owned, shown}
use Rattle.jiter_incremental.proofs.Words.{after_value, Document, HasArrived, HasTakenAll, IsMoved, ReadSoFar, Opened}
use Rattle.jiter_incremental.proofs.Words.{ReadsAt, Settled, any_bytes, between_tokens, by_mode, in_key, in_scalar}
use Rattle.jiter_incremental.proofs.Words.{is_shown, opened_to, shown_as, strict, strictly, token_tree, AnswersSo}
use Rattle.jiter_incremental.proofs.Words.{IsEndFault, KeepsText, broken_as, is_broken, kind_at_end, so_far, OpenFrame}
use Rattle.jiter_incremental.proofs.Words.{filled, rules_as, view, Token, Settings, JsonValue}
use Rattle.jiter_scan.specs.declared.errors.FaultKind.TheVariants as fault_of
use Rattle.jiter_steps.specs.PartialString.{Wherever}
use Rattle.jiter_steps.specs.StringReading.{checked}
use Rattle.jiter_steps.specs.declared.parse.ContainerKind.TheVariants as shape
use Rattle.jiter_steps.proofs.Chunks.OpenTexts.{is_text-broken, is_text-kept}
use Rattle.jiter_incremental.specs.Ends.{IsInside}
use Rattle.jiter_incremental.specs.declared.reader.Awaits.TheVariants as awaits
use Rattle.jiter_incremental.specs.declared.reader.Token.TheVariants as token
use Rattle.jiter_incremental.proofs.Documents.{known-as}
use Rattle.jiter_incremental.proofs.Documents.Ends.{broken-answered, broken-low, kind-whole, none-answered}
use Rattle.jiter_incremental.proofs.Documents.Ends.{nothing-comes, partial-answers, strict-answers, value-answered}
use Rattle.jiter_incremental.proofs.Settling.{settled-so, shown-key, shown-nothing}

-- ---- the value so far

-- What is left open is shown as the value so far,
left-tree : (v : OpenValue) (s : Arrived) → IsLeft v s → (w : Tree) → shown s ≡ Some w → v.tree ≡ w
left-tree v (at_value b []) h w is = absurd (none-some w is)
left-tree v (at_value b (f ∷ fs)) h w is = h.2.1 ∙ same_Some _ _ is
left-tree v (between_parts b k xs fs) h w is = h.3 ∙ same_Some _ _ is
left-tree v (at_end x n) h w is = h.2 ∙ same_Some _ _ is

-- and so is what is left after a value that is there.
after-tree : (v x : Tree) (fs : List OpenFrame) → v ≡ filled fs x → (w : Tree) → shown (after_value x fs) ≡ Some w
    → v ≡ w
after-tree v x [] h w is = h ∙ same_Some _ _ is
after-tree v x (items_frame xs ∷ fs) h w is = h ∙ same_Some _ _ is
after-tree v x (members_frame ms k ∷ fs) h w is = h ∙ same_Some _ _ is

module _ (d : Document) (t : List ℕ) (o : Opened) (s : Settled d t o) where
  pub token-is : d.token ≡ s.apart.token
  token-is = ap (λ e. e.token) s.same

  pub settings-are : d.settings ≡ s.apart.settings
  settings-are = ap (λ e. e.settings) s.same

  pub position-is : d.position ≡ s.apart.position
  position-is = ap (λ e. e.position) s.same

  -- a scalar that is not in it is held as it is
  pub hidden-so : d.shown ≡ false → IsMoved false s.apart d
  hidden-so hidden = subst (λ b. IsMoved b s.apart d) hidden s.moved

  pub moved-so : d.shown ≡ true → IsMoved true s.apart d
  moved-so on = subst (λ b. IsMoved b s.apart d) on s.moved

  left-apart : (a : Arrived) → d.shown ≡ false → IsLeft s.apart.value a → IsLeft d.value a
  left-apart a hidden l = subst (λ v. IsLeft v a) (sym (hidden-so hidden).2) l

-- What is so far shown of what is open is the value so far.
pub root-so : (d : Document) (t : List ℕ) (o : Opened) (s : Settled d t o) (w : Tree)
    → shown (so_far s.apart o) ≡ Some w → d.value.tree ≡ w
root-so d t (between_tokens a) s w is =
    let hidden = s.shows ∙ shown-nothing s.apart s.held.0 in
    left-tree d.value a (left-apart d t (between_tokens a) s a hidden s.held.1) w is
root-so d t (in_scalar fs b) s w is = by (is_shown s.apart) refl where
  by : (x : Bool) → is_shown s.apart ≡ x → d.value.tree ≡ w
  by true sure =
      let o = in_scalar fs b in
      let x = token_tree s.apart s.apart.token in
      let left = s.held.3 in
      let m = moved-so d t o s (s.shows ∙ sure) in
      after-tree d.value.tree x fs (m.1.value fs left.2 left.3).1 w
      (sym (ap shown (if-true (is_shown s.apart) (after_value x fs) (at_value awaits.Value fs) sure)) ∙ is)
  by false sure =
      let o = in_scalar fs b in
      let x = token_tree s.apart s.apart.token in
      left-tree d.value (at_value awaits.Value fs)
      (left-apart d t o s (at_value awaits.Value fs) (s.shows ∙ sure) s.held.3) w
      (sym (ap shown (if-false (is_shown s.apart) (after_value x fs) (at_value awaits.Value fs) sure)) ∙ is)
root-so d t (in_key fs ms b) s w is =
    let o = in_key fs ms b in
    let hidden = s.shows ∙ shown-key s.apart s.held.2 in
    ap (λ v. v.tree) (hidden-so d t o s hidden).2 ∙ s.held.6 ∙ same_Some _ _ is

-- The value so far is at the root.
pub root-told : (p : Settings) (t : List ℕ) (x : Option Fault) (o : Option Tree) (v : Tree)
    → ((w : Tree) → o ≡ Some w → v ≡ w) → AnswersSo p t x o → AnswersSo p t x (Some v)
root-told p t None o v same h = (h.0, ap Some (same h.0 h.1), h.2)
root-told p t (Some f) o v same h = h

-- ---- the error of the end

-- the containers that are open round a value
inside-after : (depth : ℕ) (v x : Tree) (fs : List OpenFrame) (r : Option FaultKind) → depth ≡ length fs
    → v ≡ filled fs x → (depth ≡ 0 → r ≡ None)
    → ((h : ContainerKind) → IsInside depth v h → option_map fault_kind r ≡ Some (end_kind_of h))
    → option_map fault_kind r ≡ end_of (after_value x fs)
inside-after depth v x [] r deep is none some = ap (option_map fault_kind) (none deep)
inside-after depth v x (items_frame xs ∷ fs) r deep is none some =
    let deeper : depth ≡ length fs + 1 = omega (arith, deep) in
    some shape.Array (record { parts = xs ++ x ∷ []; outer = fs; deep = deeper; is = is })
inside-after depth v x (members_frame ms k ∷ fs) r deep is none some =
    let deeper : depth ≡ length fs + 1 = omega (arith, deep) in
    some shape.Object (record { parts = ms ++ (k, x) ∷ []; outer = fs; deep = deeper; is = is })

-- A number may be whole there.
pub number-ends : (d : Document) (t : List ℕ) (o : Opened) (s : Settled d t o) (r : Option FaultKind)
    → d.token ≡ token.Number → is_whole d.number.stage ≡ true → (d.value.depth ≡ 0 → r ≡ None)
    → ((h : ContainerKind) → IsInside d.value.depth d.value.tree h → option_map fault_kind r ≡ Some (end_kind_of h))
    → option_map fault_kind r ≡ kind_at_end s.apart o
number-ends d t (between_tokens a) s r is sure none some =
    let no : token.Number ≡ token.Nothing =
    sym is ∙ token-is d t (between_tokens a) s ∙ s.held.0 in absurd (cc)
number-ends d t (in_key fs ms b) s r is sure none some =
    let no : token.Number ≡ token.Key =
    sym is ∙ token-is d t (in_key fs ms b) s ∙ s.held.2 in absurd (cc)
number-ends d t (in_scalar fs b) s r is sure none some = by d.shown refl where
  o : Opened
  o = in_scalar fs b

  number : s.apart.token ≡ token.Number
  number = sym (token-is d t o s) ∙ is

  shows : is_shown s.apart ≡ is_whole s.apart.number.stage
  shows = ap (shown_as s.apart) number

  by : (x : Bool) → d.shown ≡ x → option_map fault_kind r ≡ kind_at_end s.apart o
  by false hidden =
      let same = ap (λ n. is_whole n.stage) (hidden-so d t o s hidden).0 in
      absurd (false≢true (sym hidden ∙ s.shows ∙ shows ∙ sym same ∙ sure))
  by true on =
      let left = s.held.3 in
      let m = moved-so d t o s on in
      let whole = sym shows ∙ sym s.shows ∙ on in
      let stands = m.1.value fs left.2 left.3 in
      let x = token_tree s.apart s.apart.token in
      inside-after d.value.depth d.value.tree x fs r stands.0 stands.1 none some
      ∙ ap (λ k. end_of (after_value (token_tree s.apart k) fs)) number ∙ sym (kind-whole s.apart fs b number whole)

-- of another document that is as long
end-moved : (d e : Document) (k : Option Kind) (r : Option Fault) → d.position ≡ e.position → IsEndFault d k r
    → IsEndFault e k r
end-moved d e k None same h = h
end-moved d e k (Some f) same h = (h.0, h.1 ∙ same)

-- ---- with partial reading off

pub strict-told : (d : Document) (t : List ℕ) (h : HasArrived d t) (none : d.first ≡ None) (r : Option Fault)
    → ((s : Settled d t h.read.opened) → IsEndFault d (kind_at_end s.apart h.read.opened) r)
    → AnswersSo (strictly d.settings) t r (Some d.value.tree)
strict-told d t h none r end =
    let o = h.read.opened in
    let k = h.read.known in
    let s = settled-so d t h (k.noted none) in
    let p = strictly d.settings in
    let led = nothing-comes p t o (subst (λ f. ReadsAt p t [] f o) none (k.reads strict [] tt)) in
    let same = settings-are d t o s in
    let place = position-is d t o s in
    root-told p t r (shown (so_far s.apart o)) d.value.tree (root-so d t o s)
    (subst (λ q. AnswersSo (strictly q) t r (shown (so_far s.apart o))) (sym same)
    (strict-answers s.apart t (sym place ∙ h.position) o r s.held (k.ends none)
    (end-moved d s.apart (kind_at_end s.apart o) r place (end s))
    (subst (λ q. prefix_answer (rules_as owned (strictly q)) t ≡ opened_to (strictly q) t o (length t)) same led)))

-- ---- in a partial mode

-- What is held of a string is read so, where it is cut.
kept-text : (s : PartialString) → IsUtf8 s.text.text → (w : List ℕ) (h : HasTaken s w)
    → Wherever w (λ t i j. length t ≡ j
    → content_at kept t i ≡ text_or (not s.text.broken) i (h.escaped || is_some s.escape) s.text.text j)
kept-text s utf8 w h t i stands end = (ended s w h t i stands end).0 ∙ by s.text.broken refl where
  own : Bool
  own = h.escaped || is_some s.escape

  j : ℕ
  j = i + length w

  by : (b : Bool) → s.text.broken ≡ b
      → checked true i own h.decoded j ≡ text_or (not s.text.broken) i own s.text.text j
  by false is =
      is_text-kept s.text h.decoded utf8 i j own h.holds is true refl
      ∙ ap (λ b. text_or (not b) i own s.text.text j) (sym is)
  by true is =
      is_text-broken s.text h.decoded utf8 i j own h.holds is true true refl
      ∙ ap (λ b. text_or (not b) i own s.text.text j) (sym is)

-- the string that is kept is in the value so far
abbrev pub ShowsText : Document → Type 0
ShowsText d = d.token ≡ token.Text → allows_trailing_strings d.settings.mode ≡ true → d.shown ≡ true

shows-apart : (d : Document) (t : List ℕ) (o : Opened) (s : Settled d t o) → ShowsText d → s.apart.token ≡ token.Text
    → allows_trailing_strings s.apart.settings.mode ≡ true → d.shown ≡ true
shows-apart d t o s shows is on =
    shows (token-is d t o s ∙ is) (ap (λ p. allows_trailing_strings p.mode) (settings-are d t o s) ∙ on)

-- so its characters are UTF-8
shown-utf8 : (d : Document) (t : List ℕ) (o : Opened) (s : Settled d t o) (v : JsonValue) → d.value.tree ≡ view v
    → s.apart.token ≡ token.Text → d.shown ≡ true → IsUtf8 s.apart.string.text.text
shown-utf8 d t (between_tokens a) s v root is on =
    let no : token.Text ≡ token.Nothing = sym is ∙ s.held.0 in absurd (cc)
shown-utf8 d t (in_key fs ms b) s v root is on = let no : token.Text ≡ token.Key = sym is ∙ s.held.2 in absurd (cc)
shown-utf8 d t (in_scalar fs b) s v root is on =
    let left = s.held.3 in
    let m = moved-so d t (in_scalar fs b) s on in
    let y = inside-of fs v (token_tree s.apart s.apart.token) (sym root ∙ (m.1.value fs left.2 left.3).1) in
    utf8-of y.0 s.apart.string.text.text (y.1 ∙ ap (token_tree s.apart) is)

pub keeps-shown : (d : Document) (t : List ℕ) (o : Opened) (s : Settled d t o) (v : JsonValue) → d.value.tree ≡ view v
    → ShowsText d → KeepsText s.apart
keeps-shown d t o s v root shows = λ is on.
    kept-text s.apart.string (shown-utf8 d t o s v root is (shows-apart d t o s shows is on))

-- or those that are held are.
pub keeps-hidden : (d : Document) (t : List ℕ) (o : Opened) (s : Settled d t o) → d.shown ≡ false
    → IsUtf8 d.string.text.text → KeepsText s.apart
keeps-hidden d t o s hidden utf8 = λ is on.
    kept-text s.apart.string (subst (λ (n : PartialString). IsUtf8 n.text.text) (hidden-so d t o s hidden).1 utf8)

-- It is broken, or it isn't.
pub broken-so : (d : Document) (t : List ℕ) (o : Opened) (s : Settled d t o) → d.token ≡ token.Text
    → allows_trailing_strings d.settings.mode ≡ true → d.shown ≡ false → is_broken s.apart ≡ true
broken-so d t o s is on hidden =
    let text = sym (token-is d t o s) ∙ is in
    let allows = sym (ap (λ p. allows_trailing_strings p.mode) (settings-are d t o s)) ∙ on in
    let shows = sym hidden ∙ s.shows ∙ ap (shown_as s.apart) text in
    ap (broken_as s.apart) text
    ∙ by (allows_trailing_strings s.apart.settings.mode) s.apart.string.text.broken allows shows where
      by : (a b : Bool) → a ≡ true → false ≡ (a && not b) → (a && b) ≡ true
      by true true h e = refl
      by true false h e = absurd (false≢true e)
      by false b h e = absurd (false≢true h)

pub good-so : (d : Document) (t : List ℕ) (o : Opened) (s : Settled d t o) → ShowsText d → is_broken s.apart ≡ false
good-so d t o s shows = by s.apart.token refl where
  both : (a b : Bool) → (a ≡ true → (a && not b) ≡ true) → (a && b) ≡ false
  both false b h = refl
  both true false h = refl
  both true true h = absurd (false≢true (h refl))

  by : (k : Token) → s.apart.token ≡ k → broken_as s.apart k ≡ false
  by token.Text is =
      both (allows_trailing_strings s.apart.settings.mode) s.apart.string.text.broken
      (λ on. sym (ap (shown_as s.apart) is) ∙ sym s.shows ∙ shows-apart d t o s shows is on)
  by token.Nothing is = refl
  by token.Word is = refl
  by token.Number is = refl
  by token.Key is = refl

module _ (d : Document) (t : List ℕ) (h : HasArrived d t) (unset : d.fault ≡ None) where
  abbrev o : Opened
  o = h.read.opened

  abbrev settled : Settled d t o
  settled = settled-so d t h unset

  abbrev e : Document
  e = settled.apart

  abbrev far : Option Tree
  far = shown (so_far e o)

  led : prefix_answer (rules_as owned e.settings) t ≡ opened_to e.settings t o (length t)
  led =
      subst (λ q. prefix_answer (rules_as owned q) t ≡ opened_to q t o (length t)) (settings-are d t o settled)
      (nothing-comes d.settings t o (subst (λ f. ReadsAt d.settings t [] f o) unset (h.read.known.reads by_mode [] tt)))

  known-apart : ReadSoFar any_bytes e t o
  known-apart =
      known-as any_bytes d e t o (
        sym (settings-are d t o settled),
        sym (ap (λ (x : Document). x.fault) settled.same),
        sym (ap (λ (x : Document). x.first) settled.same),
      ) h.read.known

  come-apart : HasTakenAll e t
  come-apart = record {
    read = record { opened = o; known = known-apart; held = λ none. settled.held };
    position = sym (position-is d t o settled) ∙ h.position;
  }

  unset-apart : e.fault ≡ None
  unset-apart = sym (ap (λ (x : Document). x.fault) settled.same) ∙ unset

  abbrev place : d.position ≡ e.position
  place = position-is d t o settled

  told : (r : Option Fault) (v : Option Tree) → AnswersSo e.settings t r v → AnswersSo d.settings t r v
  told r v a = subst (λ q. AnswersSo q t r v) (sym (settings-are d t o settled)) a

  -- where the string is broken that is kept
  pub broken-index : d.shown ≡ false → is_broken e ≡ true → d.begin + 1 + length d.string.text.text ≤ d.position
  broken-index hidden bad =
      let begin : d.begin ≡ e.begin = ap (λ (x : Document). x.begin) settled.same in
      let text : length d.string.text.text ≡ length e.string.text.text =
      ap (λ (n : PartialString). length n.text.text) (hidden-so d t o settled hidden).1 in
      omega (arith, broken-low e t come-apart unset-apart bad, begin, text, place)

  module _ (on : is_active d.settings.mode ≡ true) where
    on-apart : is_active e.settings.mode ≡ true
    on-apart = sym (ap (λ p. is_active p.mode) (settings-are d t o settled)) ∙ on

    pub broken-told : (f : Fault) → d.shown ≡ false → KeepsText e → is_broken e ≡ true
        → f ≡ record { kind = fault_of.InvalidUnicodeCodePoint; index = d.begin + 1 + length d.string.text.text }
        → AnswersSo d.settings t (Some f) (Some d.value.tree)
    broken-told f hidden keeps bad made =
        let begin : d.begin ≡ e.begin = ap (λ (x : Document). x.begin) settled.same in
        let text : length d.string.text.text ≡ length e.string.text.text =
        ap (λ (n : PartialString). length n.text.text) (hidden-so d t o settled hidden).1 in
        told (Some f) (Some d.value.tree)
        (broken-answered e t o (Some d.value.tree) f (d.begin + 1 + length d.string.text.text) on-apart settled.held
        keeps bad led (omega (arith, begin, text)) made)

    pub value-told : KeepsText e → is_broken e ≡ false → is_some far ≡ true
        → AnswersSo d.settings t None (Some d.value.tree)
    value-told keeps good some =
        root-told d.settings t None far d.value.tree (root-so d t o settled)
        (told None far
        (value-answered e t far (kind_at_end e o) some (partial-answers e t on-apart o settled.held keeps good led)))

    pub none-told : (r : Option Fault) → KeepsText e → is_broken e ≡ false → is_some far ≡ false
        → IsEndFault d (kind_at_end e o) r → AnswersSo d.settings t r (Some d.value.tree)
    none-told r keeps good none end =
        root-told d.settings t r far d.value.tree (root-so d t o settled)
        (told r far
        (none-answered e t far (kind_at_end e o) r none (end-moved d e (kind_at_end e o) r place end)
        (sym place ∙ h.position) (partial-answers e t on-apart o settled.held keeps good led)))
