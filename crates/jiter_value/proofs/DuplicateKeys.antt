-- Sets of keys: what they have once keys are put in or members are gone, and which key is new.
use Rattle.jiter_value.proofs.Words.{◌≡◌, ◌⊎◌, inl, inr, ℕ, suc, ◌+◌, ◌<◌, ◌≤◌, Bool, true, false, List, [], ◌∷◌, ◌++◌}
use Rattle.jiter_value.proofs.Words.{length, drop, get_or, refl, sym, ap, ◌∙◌, arith, subst, length-append, ◌||◌, ◌≢◌}
use Rattle.jiter_value.proofs.Words.{◌^◌, All, bytes_eq, Global, CowStr, false_from_ne_true, length-map, length-drop}
use Rattle.jiter_value.proofs.Words.{at_drop_more, bytes_eq-Decides, text_view, AreTaken, HasKeys, IsNowhere, IsPlaceOf}
use Rattle.jiter_value.proofs.Words.{IsUpToDate, has_text, mark_on, Member, keys_of, has_key}
use Rattle.std.proofs.Common.{⊎_elim}
use Rattle.std.specs.Prelude.{◌*◌, ◌%◌, set}
use Rattle.std.specs.List.{list_any}
use Rattle.std.specs.BTreeSet.{BTreeSet, insert_key}
use Rattle.std.specs.BTreeMap.{is_at}
use Rattle.std.specs.Cmp.Lexicographic.{slice_cmp}
use Rattle.std.specs.Ordering.{match_ordering, nat_cmp}
use Rattle.std.specs.declared.cmp.Ordering.{Ordering}
use Rattle.std.specs.declared.cmp.Ordering.TheVariants.{Less, Equal, Greater}
use Rattle.std.specs.Cow.{cow_str_bytes}
use Rattle.std.proofs.Math.ListN.{get_or-append}
use Rattle.std.proofs.lemmas.Bool.{or_right, cases_eq}
use Rattle.std.proofs.lemmas.List.{get_or-drop, drop-map, get_or-map}
use Rattle.std.proofs.lemmas.List.{at_drop_all, get_or-set_other, get_or-set_same, length-set}
use Rattle.std.proofs.lemmas.List.Elements.{All-weaker}
use Rattle.jiter_value.specs.DuplicateKeys.{Adds, Holds, bucket_of}
use Rattle.jiter_value.specs.declared.parse.turns.duplicate_keys.DuplicateKeyIndex.{DuplicateKeyIndex}
use Rattle.jiter_value.specs.declared.parse.turns.duplicate_keys.BucketSlot.{BucketSlot}

-- how two keys compare
abbrev pub cow_cmp : CowStr Global → CowStr Global → Ordering
cow_cmp x y = slice_cmp nat_cmp (cow_str_bytes x) (cow_str_bytes y)

-- The mark of a key, byte by byte.
pub mark-more : (m : ℕ) (xs : List ℕ) (i : ℕ) → i < length xs
    → mark_on m (drop i xs) ≡ mark_on ((m + get_or xs i 0) % 2 ^ 64 * 11400714819323198485 % 2 ^ 64) (drop (i + 1) xs)
unfolding mark_on
mark-more m xs i lt = at_drop_more (mark_on m) xs i 0 lt

pub mark-all : (m : ℕ) (xs : List ℕ) (i : ℕ) → length xs ≤ i → mark_on m (drop i xs) ≡ m
unfolding mark_on
mark-all m xs i past = at_drop_all (mark_on m) xs i past

-- A key that is put into a set hides none that it has.
or-later : (b c d : Bool) → (c ≡ true → d ≡ true) → (b || c) ≡ true → (b || d) ≡ true
or-later true c d later is = refl
or-later false c d later is = later is

put-by : {K : Type 0} (p : K → Bool) (o : Ordering) (k x : K) (xs put : List K)
    → (list_any p xs ≡ true → list_any p put ≡ true) → list_any p (x ∷ xs) ≡ true
    → list_any p (match_ordering o (k ∷ x ∷ xs) (x ∷ xs) (x ∷ put)) ≡ true
put-by p Less k x xs put later is = or_right (p k) (p x || list_any p xs) is
put-by p Equal k x xs put later is = is
put-by p Greater k x xs put later is = or-later (p x) (list_any p xs) (list_any p put) later is

any-put : {K : Type 0} (cmp : K → K → Ordering) (p : K → Bool) (xs : List K) (k : K) → list_any p xs ≡ true
    → list_any p (insert_key cmp xs k) ≡ true
any-put cmp p [] k is = absurd (cc)
any-put cmp p (x ∷ xs) k is = put-by p (cmp k x) k x xs (insert_key cmp xs k) (any-put cmp p xs k) is

-- and of more, where they reached up to its end.
pub up-more : (ks more : List (List ℕ)) (s : DuplicateKeyIndex) → IsUpToDate ks s → IsUpToDate (ks ++ more) s
up-more ks more s had =
    record {
      keys = record {
        room = had.keys.room;
        begun = had.keys.begun;
        keys = λ i low high lt.
            subst (λ k. Holds (length s.slots.items) s.slots.items s.rest k i)
            (sym (get_or-append ks more [] i (omega (arith, high, had.within))))
            (had.keys.keys i low high (omega (arith, high, had.within)));
      };
      within = omega (arith, had.within, length-append ks more);
    }

pub more-all : (ks more : List (List ℕ)) (sets : List DuplicateKeyIndex) → All (IsUpToDate ks) sets
    → All (IsUpToDate (ks ++ more)) sets
more-all ks more sets = All-weaker (IsUpToDate ks) (IsUpToDate (ks ++ more)) (up-more ks more) sets

-- A slot with no member gets one: no other's is touched.
module _ (slots : List ℕ) (p x : ℕ) (lt : p < length slots) (free : get_or slots p 0 ≡ 0) (some : 0 < x) where
  still-taken : (i j : ℕ) → AreTaken slots i j → AreTaken (set slots p x) i j
  still-taken i j taken = λ q low high.
      ⊎_elim (λ (e : q ≡ p). absurd (omega (arith, taken q low high, free, ap (λ z. get_or slots z 0) e)))
      (λ (ne : q ≢ p). subst (λ z. 0 < z) (sym (get_or-set_other slots p q x 0 ne)) (taken q low high))
      (cases_eq q p)

  still-there : (at i : ℕ) → get_or slots at 0 ≡ i + 1 → get_or (set slots p x) at 0 ≡ i + 1
  still-there at i is =
      get_or-set_other slots p at x 0 (λ e. absurd (omega (arith, is, free, ap (λ z. get_or slots z 0) e))) ∙ is

  held-on : (n : ℕ) (rest : BTreeSet (CowStr Global)) (k : List ℕ) (i : ℕ) → Holds n slots rest k i
      → Holds n (set slots p x) rest k i
  held-on n rest k i h =
      record {
        at = h.at;
        above = h.above;
        taken = still-taken (bucket_of k n) h.at h.taken;
        there = ⊎_elim (λ a. inl (a.0, still-there h.at i a.1)) (λ b. inr b) h.there;
      }

-- A key goes among the rest.
rest-on : (n : ℕ) (slots : List ℕ) (rest more : BTreeSet (CowStr Global)) (c : CowStr Global) (k : List ℕ) (i : ℕ)
    → more.keys ≡ insert_key cow_cmp rest.keys c → Holds n slots rest k i → Holds n slots more k i
rest-on n slots rest more c k i put h =
    let p = is_at (λ x. slice_cmp nat_cmp k (cow_str_bytes x)) in
    record {
      at = h.at;
      above = h.above;
      taken = h.taken;
      there = ⊎_elim (λ a. inl a)
          (λ b. inr (b.0, ap (list_any p) put ∙ any-put cow_cmp p rest.keys c b.1))
          h.there;
    }

-- The key at a set's end is put in.
below-or-at : (i n : ℕ) → i < n + 1 → (i < n) ⊎ (i ≡ n)
below-or-at i n lt = grind arith

has-one-more : (ks : List (List ℕ)) (k : List ℕ) (old new : DuplicateKeyIndex) → new.base ≡ old.base → new.end ≡ old.end + 1
    → length new.slots.items ≡ length old.slots.items
    → ((j : List ℕ) (i : ℕ) → Holds (length old.slots.items) old.slots.items old.rest j i
    → Holds (length old.slots.items) new.slots.items new.rest j i)
    → Holds (length old.slots.items) new.slots.items new.rest k old.end
    → HasKeys ks old → get_or ks old.end [] ≡ k → HasKeys ks new
has-one-more ks k old new base end same on last had is =
    record {
      room = omega (arith, same, had.room);
      begun = omega (arith, base, end, had.begun);
      keys = λ i low high lt.
          let H : ℕ → Type 0 = λ n. Holds n new.slots.items new.rest (get_or ks i []) i in
          subst H (sym same)
          (⊎_elim
          (λ (below : i < old.end). on (get_or ks i []) i (had.keys i (omega (arith, low, base)) below lt))
          (λ (at : i ≡ old.end).
          subst (λ j. Holds (length old.slots.items) new.slots.items new.rest (get_or ks j []) j) (sym at)
          (subst (λ j. Holds (length old.slots.items) new.slots.items new.rest j old.end) (sym is) last))
          (below-or-at i old.end (omega (arith, high, end))));
    }

pub adds-slot : (k : List ℕ) (old new : DuplicateKeyIndex) (p : BucketSlot) → IsPlaceOf old.slots.items k p → p.at < p.bucket + 8
    → new.base ≡ old.base → new.end ≡ old.end + 1 → new.slots.items ≡ set old.slots.items p.at (old.end + 1)
    → new.rest ≡ old.rest → Adds k old new
adds-slot k old new p place lt base end slots rest =
    let os = old.slots.items in
    let n = length os in
    let within : p.at < n = omega (arith, lt, place.inside) in
    let free = place.free lt in
    let some : 0 < old.end + 1 = omega arith in
    let first = place.bucket in
    let S = λ (l : List ℕ) (r : BTreeSet (CowStr Global)) (j : List ℕ) (i : ℕ). Holds n l r j i in
    let on : (j : List ℕ) (i : ℕ) → Holds n os old.rest j i → Holds n new.slots.items new.rest j i =
    λ j i h. subst (λ l. Holds n l new.rest j i) (sym slots)
    (subst (λ r. Holds n (set os p.at (old.end + 1)) r j i) (sym rest)
    (held-on os p.at (old.end + 1) within free some n old.rest j i h)) in
    let last : Holds n new.slots.items new.rest k old.end =
    subst (λ l. Holds n l new.rest k old.end) (sym slots)
    (record {
      at = p.at;
      above = omega (arith, first, place.above);
      taken = still-taken os p.at (old.end + 1) within free some (bucket_of k n) p.at
          (subst (λ b. AreTaken os b p.at) first place.taken);
      there = inl (omega (arith, first, lt), get_or-set_same os p.at (old.end + 1) 0 within);
    }) in
    record {
      base = base;
      end = end;
      keys = λ ks. has-one-more ks k old new base end (ap length slots ∙ length-set os p.at (old.end + 1)) on last;
    }

pub adds-rest : (k : List ℕ) (old new : DuplicateKeyIndex) (p : BucketSlot) (c : CowStr Global) → IsPlaceOf old.slots.items k p
    → p.bucket + 8 ≤ p.at → new.base ≡ old.base → new.end ≡ old.end + 1 → new.slots.items ≡ old.slots.items
    → new.rest.keys ≡ insert_key cow_cmp old.rest.keys c → has_text new.rest k ≡ true → Adds k old new
adds-rest k old new p c place full base end slots put has =
    let os = old.slots.items in
    let n = length os in
    let first = place.bucket in
    let on : (j : List ℕ) (i : ℕ) → Holds n os old.rest j i → Holds n new.slots.items new.rest j i =
    λ j i h. subst (λ l. Holds n l new.rest j i) (sym slots) (rest-on n os old.rest new.rest c j i put h) in
    let last : Holds n new.slots.items new.rest k old.end =
    subst (λ l. Holds n l new.rest k old.end) (sym slots)
    (record {
      at = p.at;
      above = omega (arith, first, place.above);
      taken = subst (λ b. AreTaken os b p.at) first place.taken;
      there = inr (omega (arith, first, full, place.below), has);
    }) in
    record { base = base; end = end; keys = λ ks. has-one-more ks k old new base end (ap length slots) on last }

pub up-added : (ks : List (List ℕ)) (k : List ℕ) (old new : DuplicateKeyIndex) → IsUpToDate ks old → old.end < length ks
    → get_or ks old.end [] ≡ k → Adds k old new → IsUpToDate ks new
up-added ks k old new had within at adds =
    record { keys = adds.keys ks had.keys at; within = omega (arith, within, adds.end) }

-- A key is no member's, if the set of them all does not have it.
none-has : (key : List ℕ) (ms : List Member)
    → ((i : ℕ) → i < length ms → bytes_eq key (get_or (keys_of ms) i []) ≡ false) → has_key key ms ≡ false
none-has key [] h = refl
none-has key (m ∷ ms) h = rw (h 0 (omega arith)) (none-has key ms (λ i lt. h (suc i) (omega (arith, lt))))

-- The member whose key this is has no slot before the place of the key, and the key is not among the rest.
before-or-from : (i n : ℕ) → (i < n) ⊎ (n ≤ i)
before-or-from i n = grind arith

no-slot : (ks : List (List ℕ)) (slots : List ℕ) (rest : BTreeSet (CowStr Global)) (p : BucketSlot) (key : List ℕ) (i at : ℕ)
    → IsPlaceOf slots key p → IsNowhere ks slots p key → i < length ks → key ≡ get_or ks i []
    → p.bucket ≤ at → AreTaken slots p.bucket at → at < p.bucket + 8 → get_or slots at 0 ≡ i + 1 → ⊥
no-slot ks slots rest p key i at place nowhere lt same above taken below is =
    ⊎_elim
    (λ (before : at < p.at).
    let differs = nowhere at above before i is lt in
    let equal : bytes_eq key (get_or ks i []) ≡ true = (bytes_eq-Decides key (get_or ks i [])).1 same in
    absurd (cc))
    (λ (from : p.at ≤ at).
    let free = place.free (omega (arith, from, below)) in
    ⊎_elim
    (λ (e : at ≡ p.at). absurd (omega (arith, is, free, ap (λ z. get_or slots z 0) e)))
    (λ (ne : at ≢ p.at). absurd (omega (arith, free, taken p.at place.above (grind arith))))
    (cases_eq at p.at))
    (before-or-from at p.at)

no-rest : (slots : List ℕ) (rest : BTreeSet (CowStr Global)) (p : BucketSlot) (key : List ℕ) (at : ℕ)
    → IsPlaceOf slots key p → (p.at ≡ p.bucket + 8 → has_text rest key ≡ false)
    → AreTaken slots p.bucket at → at ≡ p.bucket + 8 → has_text rest key ≡ true → ⊥
no-rest slots rest p key at place new taken is has =
    ⊎_elim
    (λ (below : p.at < p.bucket + 8).
    absurd (omega (arith, place.free below, taken p.at place.above (omega (arith, below, is)))))
    (λ (from : p.bucket + 8 ≤ p.at).
    let none = new (omega (arith, from, place.below)) in
    absurd (cc))
    (before-or-from p.at (p.bucket + 8))

pub no-member : (ms : List Member) (s : DuplicateKeyIndex) (key : List ℕ) (p : BucketSlot) → IsUpToDate (keys_of ms) s
    → s.end ≡ length ms → IsPlaceOf s.slots.items key p → IsNowhere (keys_of ms) s.slots.items p key
    → (p.at ≡ p.bucket + 8 → has_text s.rest key ≡ false) → has_key key (drop s.base ms) ≡ false
no-member ms s key p had all place nowhere new =
    let ks = keys_of ms in
    let slots = s.slots.items in
    none-has key (drop s.base ms)
    (λ i lt.
    let n = s.base + i in
    let few : n < length ms = omega (arith, lt, length-drop s.base ms) in
    let fewer : n < length ks = omega (arith, few, length-map ms (λ m. (text_view m.0).bytes)) in
    let at : get_or (keys_of (drop s.base ms)) i [] ≡ get_or ks n [] =
    ap (λ l. get_or l i []) (sym (drop-map _ s.base ms)) ∙ get_or-drop s.base ks i [] in
    false_from_ne_true (bytes_eq key (get_or (keys_of (drop s.base ms)) i []))
    (λ same.
    let is : key ≡ get_or ks n [] = (bytes_eq-Decides key _).0 same ∙ at in
    let h : Holds (length slots) slots s.rest key n =
    subst (λ k. Holds (length slots) slots s.rest k n) (sym is)
    (had.keys.keys n (omega arith) (omega (arith, few, all)) fewer) in
    let first = place.bucket in
    let taken : AreTaken slots p.bucket h.at = subst (λ b. AreTaken slots b h.at) (sym first) h.taken in
    ⊎_elim
    (λ a. no-slot ks slots s.rest p key n h.at place nowhere fewer is (omega (arith, first, h.above)) taken
    (omega (arith, first, a.0)) a.1)
    (λ b. no-rest slots s.rest p key h.at place new taken (omega (arith, first, b.0)) b.1)
    h.there))

-- the key of a member
pub key-of : (ms : List Member) (i : ℕ) (m : Member) → i < length ms → m ≡ get_or ms i m
    → get_or (keys_of ms) i [] ≡ (text_view m.0).bytes
key-of ms i m lt is =
    get_or-map (λ x. (text_view x.0).bytes) ms i m [] lt ∙ ap (λ x. (text_view x.0).bytes) (sym is)
