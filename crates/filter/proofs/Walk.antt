-- The walk through the members of a line, as each member's own one.
use Rattle.std.proofs.Common.{◌≡◌, ◌∙◌, ◌<◌, ◌≤◌, ◌-◌, ◌||◌, ℕ, Bool, true, false, List, [], ◌∷◌, refl, sym, suc, zero, ap}
use Rattle.std.proofs.Common.{◌+◌, arith, drop, length, subst, take}
use Rattle.std.specs.Prelude.{get_or, replicate, slice_range, string_bytes, Option, Some, None, Ok, Err, Result, IsErrAnd}
use Rattle.std.specs.Prelude.{option_map}
use Rattle.std.specs.Borrow.{Bor}
use Rattle.std.specs.Str.{bytes_eq}
use Rattle.std.specs.declared.alloc.Global.{Global}
use Rattle.std.specs.declared.borrow.CowStr.{CowStr}
use Rattle.std.proofs.lemmas.List.{drop_more}
use Rattle.std.proofs.lemmas.List.Folds.{list_any_at}
use Rattle.jiter.specs.Caller.{Cause, IsMemory, MovesOn, ReaderState, Reads, Reply, Text, at_start, cause_of, finish}
use Rattle.jiter.specs.Caller.{gave, indexed_key_bytes, key_bytes, key_step, never, next, object_read, refused}
use Rattle.jiter.specs.Caller.{reply_seen}
use Rattle.jiter.specs.Caller.{value_place, whole, with_position}
use Rattle.jiter.specs.declared.errors.JiterError.{JiterError}
use Rattle.jiter.proofs.Walking.{key-kept}
use Rattle.jiter.proofs.Walking.{gave-is, gave-refused, key-ahead, moves-on}
use Rattle.filter.specs.Members.{Fails, Finds, Passed, key_is}
use Rattle.filter.specs.Members.{part_read, with_value}
use Rattle.filter.specs.Once.{FoundAll, Keeps, ReadsAll, ReadsOne, found_at, is_wanted, name_at}
use Rattle.filter.specs.declared.pointers.Member.{Member}
use Rattle.filter.proofs.Parts.{part-any}

-- ---- one member
module _ (name line : List ℕ) where
  abbrev pub s0 : ReaderState
  s0 = at_start line

  -- The reader passed members, and is here.
  pub record Here (s : ReaderState) (key : Option Bool) (found : Option (List ℕ)) : Type 0 where
    pub moves : MovesOn s0 s
    pub passed : Passed name s0 key found s.position

  pub here-first : (s : ReaderState) (key : Option Bool) → MovesOn s0 s
      → reply_seen (key_is name) (next s0 (object_read whole s0)) ≡ gave key s.position → Here s key None
  here-first s key moves is = record { moves = moves; passed = Passed.first key s.position is }

  module _ (s : ReaderState) (named : Bool) (found : Option (List ℕ)) (h : Here s (Some named) found) where
    abbrev here : ReaderState
    here = with_position s0 s.position

    value-there : (c : Cause) (x stop : ℕ) → next s (part_read named s) ≡ refused c x stop
        → next here (part_read named here) ≡ refused c x stop
    value-there c x stop = subst (λ (v : ReaderState). next v (part_read named v) ≡ refused c x stop) h.moves.same

    pub value-fails : (c : Cause) (x stop : ℕ) → next s (part_read named s) ≡ refused c x stop → Fails name s0 c x stop
    value-fails c x stop is = Fails.at_value named found s.position h.passed (value-there c x stop is)

    -- the member's value was passed
    module _ (s1 : ReaderState) (moves : MovesOn s s1) (read : next s (part_read named s) ≡ gave tt s1.position) where
      read-there : next here (part_read named here) ≡ gave tt s1.position
      read-there = subst (λ (v : ReaderState). next v (part_read named v) ≡ gave tt s1.position) h.moves.same read

      there : s1 ≡ with_position s0 s1.position
      there = (moves-on s0 s s1 h.moves moves).same

      pub key-fails : (c : Cause) (x stop : ℕ) → key_step whole s1 ≡ refused c x stop → Fails name s0 c x stop
      key-fails c x stop is =
          Fails.at_key named found s.position s1.position h.passed read-there
          (subst (λ (v : ReaderState). key_step whole v ≡ refused c x stop) there is)

      pub here-more : (s2 : ReaderState) (key : Option Bool) → MovesOn s1 s2
          → reply_seen (key_is name) (key_step whole s1) ≡ gave key s2.position → (source : List ℕ)
          → source ≡ slice_range s.text (value_place s) s1.position → Here s2 key (with_value named source found)
      here-more s2 key moves2 given source cut =
          let same : slice_range s.text (value_place s) s1.position ≡ slice_range line (value_place here) s1.position =
          ap (λ (v : ReaderState). slice_range v.text (value_place v) s1.position) h.moves.same in
          record {
            moves = moves-on s0 s1 s2 (moves-on s0 s s1 h.moves moves) moves2;
            passed = subst (λ x. Passed name s0 key (with_value named x found) s2.position) (sym (cut ∙ same))
                (Passed.past named found key s.position s1.position s2.position h.passed read-there
                (subst (λ (v : ReaderState). reply_seen (key_is name) (key_step whole v) ≡ gave key s2.position) there given));
          }

  -- after the last member
  module _ (s : ReaderState) (found : Option (List ℕ)) (h : Here s None found) where
    pub end-fails : (c : Cause) (x stop : ℕ) → finish s ≡ refused c x stop → Fails name s0 c x stop
    end-fails c x stop is =
        Fails.at_end found s.position h.passed (subst (λ (v : ReaderState). finish v ≡ refused c x stop) h.moves.same is)

    pub all-passed : (last : ℕ) → finish s ≡ gave tt last → Finds name line found
    all-passed last is = record {
      place = s.position;
      last = last;
      passed = h.passed;
      ended = subst (λ (v : ReaderState). finish v ≡ gave tt last) h.moves.same is;
    }

-- ---- all members
-- a key that was read, and its index
abbrev pub Told : Type 0
Told = CowStr Global × ℕ

-- whether it is the name
abbrev pub told_named : List ℕ → Option Told → Option Bool
told_named name = option_map (λ k. bytes_eq (indexed_key_bytes k) name)

told-is : (name : List ℕ) (key : Option Told) (r : Reply (Option Text)) (i : ℕ)
    → reply_seen key_bytes r ≡ gave (option_map indexed_key_bytes key) i
    → reply_seen (key_is name) r ≡ gave (told_named name key) i
told-is name key r i h = key-kept indexed_key_bytes (λ k. bytes_eq k name) key (told_named name key) r i h refl

module _ (members : List Member) (line : List ℕ) where
  -- The reader is here for each member.
  abbrev pub AllHere : ReaderState → Option Told → List (Option (Bor (List ℕ))) → Type 0
  AllHere s key sources = (k : ℕ) (m : Member) → k < length members
      → Here (name_at members k m) line s (told_named (name_at members k m) key) (found_at sources k)

  found-none : (n k : ℕ) → found_at (replicate n None) k ≡ None
  found-none zero k = refl
  found-none (suc n) zero = refl
  found-none (suc n) (suc k) = found-none n k

  pub all-first : (s : ReaderState) (key : Option Told) (sources : List (Option (Bor (List ℕ)))) → MovesOn (at_start line) s
      → reply_seen key_bytes (next (at_start line) (object_read whole (at_start line)))
      ≡ gave (option_map indexed_key_bytes key) s.position
      → sources ≡ replicate (length members) None → AllHere s key sources
  all-first s key sources moves is none k m within =
      subst (Here (name_at members k m) line s (told_named (name_at members k m) key))
      (sym (ap (λ l. found_at l k) none ∙ found-none (length members) k))
      (here-first (name_at members k m) line s _ moves (told-is _ key _ _ is))

  -- the member's value was passed, and the next key read
  module _ (s s1 s2 : ReaderState) (key : Told) (sources : List (Option (Bor (List ℕ)))) (h : AllHere s (Some key) sources)
      (moves : MovesOn s s1) (wanted : Bool) (all : wanted ≡ is_wanted (indexed_key_bytes key) members)
      (read : next s (part_read wanted s) ≡ gave tt s1.position) where
    -- each member's own walk passes it too
    passes : (k : ℕ) (m : Member) → k < length members
        → next s (part_read (bytes_eq (indexed_key_bytes key) (name_at members k m)) s) ≡ gave tt s1.position
    passes k m within = by wanted all read where
      by : (w : Bool) → w ≡ is_wanted (indexed_key_bytes key) members → next s (part_read w s) ≡ gave tt s1.position
          → next s (part_read (bytes_eq (indexed_key_bytes key) (name_at members k m)) s) ≡ gave tt s1.position
      by true is h = part-any s _ _ h
      by false is h = no (bytes_eq (indexed_key_bytes key) (name_at members k m)) refl where
        no : (b : Bool) → bytes_eq (indexed_key_bytes key) (name_at members k m) ≡ b
            → next s (part_read b s) ≡ gave tt s1.position
        no false same = h
        no true same =
            absurd (let never : false ≡ true = is ∙ list_any_at (λ x. bytes_eq (indexed_key_bytes key) (string_bytes x.name))
            members k m within same in cc)

    module _ (next_key : Option Told) (moves2 : MovesOn s1 s2)
        (given : reply_seen key_bytes (key_step whole s1) ≡ gave (option_map indexed_key_bytes next_key) s2.position)
        (source : List ℕ) (cut : source ≡ slice_range s.text (value_place s) s1.position)
        (sources' : List (Option (Bor (List ℕ)))) where
      pub all-more : Keeps members (indexed_key_bytes key) source sources sources' → AllHere s2 next_key sources'
      all-more put k m within =
          subst (Here (name_at members k m) line s2 (told_named (name_at members k m) next_key)) (sym (put k m within))
          (here-more (name_at members k m) line s _ _ (h k m within) s1 moves (passes k m within) s2 _ moves2
          (told-is _ next_key _ _ given) source cut)

    -- fewer bytes are left
    pub less-left : MovesOn (at_start line) s → (next_key : Option Told) → MovesOn s1 s2
        → reply_seen key_bytes (key_step whole s1) ≡ gave (option_map indexed_key_bytes next_key) s2.position
        → length line - s2.position < length line - s.position
    less-left before next_key moves2 given =
        let moves1 = moves-on (at_start line) s s1 before moves in
        let text : length s1.text ≡ length line = ap (λ (v : ReaderState). length v.text) moves1.same in
        omega (
          arith,
          moves.forward,
          ahead (omega (arith, moves1.within, text)) (key_step whole s1) refl given,
          (moves-on (at_start line) s1 s2 moves1 moves2).within,
        ) where
          ahead : s1.position ≤ length s1.text → (r : Reply (Option Text)) → key_step whole s1 ≡ r
              → reply_seen key_bytes r ≡ gave (option_map indexed_key_bytes next_key) s2.position → s1.position < s2.position
          ahead within (gave o j) is same =
              omega (arith, key-ahead whole s1 o j within is, (gave-is _ _ j s2.position same).1)
          ahead within (refused c x stop) is same = absurd (gave-refused (sym same))

-- ---- the error of a walk for one member
one-wanted : (key : List ℕ) (m : Member) → is_wanted key (m ∷ []) ≡ bytes_eq key (string_bytes m.name)
one-wanted key m = by (bytes_eq key (string_bytes m.name)) where
  by : (b : Bool) → (b || false) ≡ b
  by true = refl
  by false = refl

module _ (members : List Member) (line : List ℕ) (m : Member) (one : members ≡ m ∷ []) where
  abbrev name : List ℕ
  name = string_bytes m.name

  alone : (s : ReaderState) (key : Option Told) (sources : List (Option (Bor (List ℕ)))) → AllHere members line s key sources
      → Here name line s (told_named name key) (found_at sources 0)
  alone s key sources h = subst (λ l. AllHere l line s key sources) one h 0 m (omega arith)

  alone-wanted : (key : Told) (wanted : Bool) → wanted ≡ is_wanted (indexed_key_bytes key) members
      → wanted ≡ bytes_eq (indexed_key_bytes key) name
  alone-wanted key wanted is = is ∙ ap (is_wanted (indexed_key_bytes key)) one ∙ one-wanted (indexed_key_bytes key) m

  module _ (s : ReaderState) (key : Told) (sources : List (Option (Bor (List ℕ))))
      (h : AllHere members line s (Some key) sources) (wanted : Bool)
      (is : wanted ≡ is_wanted (indexed_key_bytes key) members) (c : Cause) (x stop : ℕ) where
    pub one-value-fails : next s (part_read wanted s) ≡ refused c x stop → Fails name (at_start line) c x stop
    one-value-fails refusal =
        value-fails name line s _ _ (alone s (Some key) sources h) c x stop
        (subst (λ w. next s (part_read w s) ≡ refused c x stop) (alone-wanted key wanted is) refusal)

    pub one-key-fails : (s1 : ReaderState) → MovesOn s s1 → next s (part_read wanted s) ≡ gave tt s1.position
        → key_step whole s1 ≡ refused c x stop → Fails name (at_start line) c x stop
    one-key-fails s1 moves read =
        key-fails name line s _ _ (alone s (Some key) sources h) s1 moves
        (subst (λ w. next s (part_read w s) ≡ gave tt s1.position) (alone-wanted key wanted is) read) c x stop

  pub one-end-fails : (s : ReaderState) (sources : List (Option (Bor (List ℕ)))) → AllHere members line s None sources
      → (c : Cause) (x stop : ℕ) → finish s ≡ refused c x stop → Fails name (at_start line) c x stop
  one-end-fails s sources h = end-fails name line s _ (alone s None sources h)

-- ---- what is returned
module _ (members : List Member) (line : List ℕ) (sources : List (Option (Bor (List ℕ)))) where
  pub fails-so : (x : Result (Unit {0}) JiterError) (e : JiterError) (stop : ℕ) → IsErrAnd x (λ d. d ≡ e)
      → ((m : Member) → members ≡ m ∷ [] → (IsMemory e → ⊥)
      → Fails (string_bytes m.name) (at_start line) (cause_of e.error_type) e.index stop) → ReadsAll members line sources x
  fails-so (Ok u) e stop is fails = absurd is
  fails-so (Err d) e stop is fails =
      subst (λ y. ReadsAll members line sources (Err y)) (sym is) (λ m one bytes. (stop, fails m one bytes))

  -- after the last member
  pub finished : (s new : ReaderState) → AllHere members line s None sources → (x : Result (Unit {0}) JiterError)
      → Reads never (λ u. u) (finish s) x s new → ReadsAll members line sources x
  finished s new h (Ok u) reads = λ k m within. all-passed (name_at members k m) line s _ (h k m within) new.position reads.value
  finished s new h (Err e) reads =
      λ m one bytes. (new.position, one-end-fails members line m one s sources h _ e.index new.position reads.value)

-- ---- a walk for the member at an index
module _ (members : List Member) (line : List ℕ) (i : ℕ) (m : Member) (within : i < length members)
    (sources : List (Option (Bor (List ℕ)))) where
  one-there : slice_range members i (i + 1) ≡ get_or members i m ∷ []
  one-there =
      ap (λ n. take n (drop i members)) (let one : i + 1 - i ≡ 1 = omega arith in one)
      ∙ ap (take 1) (drop_more members i m within)

  pub one-found : FoundAll (slice_range members i (i + 1)) line sources → Finds (name_at members i m) line (found_at sources 0)
  one-found h = subst (λ l. FoundAll l line sources) one-there h 0 m (omega arith)

  pub one-failed : (x : Result (Option (Bor (List ℕ))) JiterError) (e : JiterError) → IsErrAnd x (λ d. d ≡ e)
      → ReadsAll (slice_range members i (i + 1)) line sources (Err e) → ReadsOne (name_at members i m) line x
  one-failed (Ok found) e is h = absurd is
  one-failed (Err d) e is h =
      subst (λ y. ReadsOne (name_at members i m) line (Err y)) (sym is) (h (get_or members i m) one-there)
