-- What becomes of a line is decided: the reader's calls follow one another in one way only.
use Rattle.std.proofs.Common.{◌≡◌, ◌∙◌, ap, refl, subst, suc, sym, zero, ℕ, ◌+◌, Bool, List, ◌∷◌, [], ◌++◌, Option, Some, None}
use Rattle.std.specs.Prelude.{option_map, slice_range, string_bytes}
use Rattle.jiter.specs.Caller.{Cause, ReaderState, Reply, at_start, cause_text, finish, gave, key_step, next}
use Rattle.jiter.specs.Caller.{object_read, refused, reply_seen, value_place, whole, with_position}
use Rattle.json_lines.specs.Cut.{IsDecided}
use Rattle.json_lines.specs.Line.{Seen, written}
use Rattle.json_lines.specs.Line as seen
use Rattle.filter.specs.Line.{AfterPart, BecomesBy, LineBecomes, PartBecomes, found_outcome, part_fails, part_found}
use Rattle.filter.specs.Members.{Fails, Finds, Passed, key_is, part_read, with_value}
use Rattle.filter.specs.Members as members
use Rattle.filter.specs.declared.filter.Filter.{Filter}
use Rattle.filter.specs.declared.pointers.Member.{Member}

-- where the reader is: after a key, or after the object; the source that was found so far
data Place : Type 0 where
  place : Option Bool → Option (List ℕ) → ℕ → Place

-- how the calls end
data End : Type 0 where
  found_at_end : Option (List ℕ) → End
  failed : Cause → ℕ → End

abbrev keyed : Option (List ℕ) → Reply (Option Bool) → Option Place
keyed found (gave key i) = Some (place key found i)
keyed found (refused c x stop) = None

abbrev cause_at : {A : Type 0} → Reply A → End → End
cause_at (gave a i) e = e
cause_at (refused c x stop) e = failed c x

abbrev then-go : {P : Type 0} → (P → Option P) → Option P → Option P
then-go go None = None
then-go go (Some p) = go p

abbrev runs : {P : Type 0} → (P → Option P) → ℕ → Option P → Option P
runs go zero p = p
runs go (suc n) p = runs go n (then-go go p)

runs-last : {P : Type 0} (go : P → Option P) (n : ℕ) (p : Option P) → runs go n (then-go go p) ≡ then-go go (runs go n p)
runs-last go zero p = refl
runs-last go (suc n) p = runs-last go n (then-go go p)

runs-none : {P : Type 0} (go : P → Option P) (n : ℕ) → runs go n None ≡ None
runs-none go zero = refl
runs-none go (suc n) = runs-none go n

-- steps end at one place at most
one-end : {P : Type 0} (go : P → Option P) (n m : ℕ) (p : Option P) (x y : P) → runs go n p ≡ Some x → go x ≡ None
    → runs go m p ≡ Some y → go y ≡ None → x ≡ y
one-end go zero zero p x y a b c d = let same : Some x ≡ Some y = sym a ∙ c in cc
one-end go zero (suc m) p x y a b c d =
    let none : runs go m (then-go go p) ≡ None = ap (λ q. runs go m (then-go go q)) a ∙ ap (runs go m) b ∙ runs-none go m in
    absurd (let no : None ≡ Some y = sym none ∙ c in cc)
one-end go (suc n) zero p x y a b c d =
    let none : runs go n (then-go go p) ≡ None = ap (λ q. runs go n (then-go go q)) c ∙ ap (runs go n) d ∙ runs-none go n in
    absurd (let no : None ≡ Some x = sym none ∙ a in cc)
one-end go (suc n) (suc m) p x y a b c d = one-end go n m (then-go go p) x y a b c d

module _ (name : List ℕ) (s : ReaderState) where
  -- after the value of a key that is the name or isn't
  abbrev after-value : Bool → Option (List ℕ) → ℕ → Reply (Unit {0}) → Option Place
  after-value is_named found i (gave u j) = keyed (with_value is_named (slice_range s.text (value_place (with_position s i)) j) found)
      (reply_seen (key_is name) (key_step whole (with_position s j)))
  after-value is_named found i (refused c x stop) = None

  abbrev go : Place → Option Place
  go (place None found i) = None
  go (place (Some is_named) found i) =
      after-value is_named found i (next (with_position s i) (part_read is_named (with_position s i)))

  abbrev start : Option Place
  start = keyed None (reply_seen (key_is name) (next s (object_read whole s)))

  abbrev end-after : Reply (Unit {0}) → End
  end-after (gave u j) = cause_at (key_step whole (with_position s j)) (found_at_end None)
  end-after (refused c x stop) = failed c x

  -- how the calls end at this place
  abbrev end-of : Place → End
  end-of (place None found i) = cause_at (finish (with_position s i)) (found_at_end found)
  end-of (place (Some is_named) found i) = end-after (next (with_position s i) (part_read is_named (with_position s i)))

  record Reaches (p : Place) : Type 0 where
    count : ℕ
    there : runs go count start ≡ Some p

  reaches : (key : Option Bool) (found : Option (List ℕ)) (i : ℕ) → Passed name s key found i → Reaches (place key found i)
  reaches key found i (members.first k j e) = record { count = 0; there = ap (keyed None) e }
  reaches key found i (members.past is_named f k j l e before read key-read) =
      let r = reaches (Some is_named) f j before in
      record {
        count = suc r.count;
        there = runs-last go r.count start ∙ ap (then-go go) r.there ∙ ap (after-value is_named f j) read
            ∙ ap (keyed (with_value is_named (slice_range s.text (value_place (with_position s j)) l) f)) key-read;
      }

  -- the calls end so
  data Ends (e : End) : Type 0 where
    at_once : start ≡ None → cause_at (next s (object_read whole s)) (found_at_end None) ≡ e → Ends e
    later : (p : Place) → Reaches p → go p ≡ None → end-of p ≡ e → Ends e

  one : (e e' : End) → Ends e → Ends e' → e ≡ e'
  one e e' (at_once a b) (at_once c d) = sym b ∙ d
  one e e' (at_once a b) (later p r c d) =
      absurd (let no : None ≡ Some p = sym (ap (runs go r.count) a ∙ runs-none go r.count) ∙ r.there in cc)
  one e e' (later p r c d) (at_once a b) =
      absurd (let no : None ≡ Some p = sym (ap (runs go r.count) a ∙ runs-none go r.count) ∙ r.there in cc)
  one e e' (later p r c d) (later p' r' c' d') =
      sym d ∙ ap end-of (one-end go r.count r'.count start p p' r.there c r'.there c') ∙ d'

  fails : (c : Cause) (x stop : ℕ) → Fails name s c x stop → Ends (failed c x)
  fails c x stop (members.at_object e) =
      at_once (ap (λ r. keyed None (reply_seen (key_is name) r)) e) (ap (λ r. cause_at r (found_at_end None)) e)
  fails c x stop (members.at_value is_named found i before e) =
      later (place (Some is_named) found i) (reaches (Some is_named) found i before) (ap (after-value is_named found i) e) (ap end-after e)
  fails c x stop (members.at_key is_named found i j before read e) =
      later (place (Some is_named) found i) (reaches (Some is_named) found i before)
      (ap (after-value is_named found i) read
      ∙ ap (λ r. keyed (with_value is_named (slice_range s.text (value_place (with_position s i)) j) found)
      (reply_seen (key_is name) r)) e)
      (ap end-after read ∙ ap (λ r. cause_at r (found_at_end None)) e)
  fails c x stop (members.at_end found i before e) =
      later (place None found i) (reaches None found i before) refl (ap (λ r. cause_at r (found_at_end found)) e)

finds : (name line : List ℕ) (found : Option (List ℕ)) → Finds name line found → Ends name (at_start line) (found_at_end found)
finds name line found h =
    later (place None found h.place) (reaches name (at_start line) None found h.place h.passed) refl
    (ap (λ r. cause_at r (found_at_end found)) h.ended)

-- what becomes of a member, by how the calls end
abbrev seen-at : Member → List ℕ → End → Seen
seen-at m line (found_at_end found) = found_outcome (option_map string_bytes m.deep) line found
seen-at m line (failed c x) = seen.refused (x + 1) (cause_text c)

record PartEnds (m : Member) (line : List ℕ) (part : Seen) : Type 0 where
  how : End
  ends : Ends (string_bytes m.name) (at_start line) how
  is : seen-at m line how ≡ part

part-ends : (m : Member) (line : List ℕ) (part : Seen) → PartBecomes m line part → PartEnds m line part
part-ends m line part (part_fails c x stop h) =
    record { how = failed c x; ends = fails (string_bytes m.name) (at_start line) c x stop h; is = refl }
part-ends m line part (part_found found h) =
    record { how = found_at_end found; ends = finds (string_bytes m.name) line found h; is = refl }

one-part : (m : Member) (line : List ℕ) (part part' : Seen) → PartBecomes m line part → PartBecomes m line part' → part ≡ part'
one-part m line part part' p q =
    let a = part-ends m line part p in
    let b = part-ends m line part' q in
    sym a.is ∙ ap (seen-at m line) (one (string_bytes m.name) (at_start line) a.how b.how a.ends b.ends) ∙ b.is

pub one-line : (ms : List Member) (line text : List ℕ) (o o' : Seen) → LineBecomes ms line text o → LineBecomes ms line text o' → o ≡ o'
one-line [] line text o o' p q = p ∙ sym q
one-line (m ∷ ms) line text o o' p q =
    by p.0 p.2 (subst (λ part. AfterPart part o' (λ value. LineBecomes ms line ((text ++ m.key.items) ++ value) o'))
    (one-part m line q.0 p.0 q.1 p.1) q.2) (λ value. one-line ms line ((text ++ m.key.items) ++ value) o o') where
      by : (part : Seen) → AfterPart part o (λ value. LineBecomes ms line ((text ++ m.key.items) ++ value) o)
          → AfterPart part o' (λ value. LineBecomes ms line ((text ++ m.key.items) ++ value) o')
          → ((value : List ℕ) → LineBecomes ms line ((text ++ m.key.items) ++ value) o
          → LineBecomes ms line ((text ++ m.key.items) ++ value) o' → o ≡ o') → o ≡ o'
      by (written value) a b more = more value a b
      by (seen.refused column cause) a b more = a ∙ sym b

pub decided : (filter : Filter) → IsDecided (BecomesBy filter.members.items)
decided filter line o o' p q = one-line filter.members.items line [] o o' p.any q.any
