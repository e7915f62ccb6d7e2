-- Sets of the keys of open objects.
use Rattle.std.specs.Prelude.{◌≡◌, ℕ, ◌+◌, ◌-◌, ◌*◌, ◌/◌, ◌%◌, ◌^◌, ◌≤◌, ◌<◌, ◌⊎◌, Bool, true, false}
use Rattle.std.specs.Prelude.{List, [], ◌∷◌, length, get_or, drop}
use Rattle.std.specs.BTreeSet.{BTreeSet, contains_by}
use Rattle.std.specs.Cmp.Lexicographic.{slice_cmp}
use Rattle.std.specs.Ordering.{nat_cmp}
use Rattle.std.specs.Str.{bytes_eq}
use Rattle.std.specs.declared.alloc.Global.{Global}
use Rattle.std.specs.declared.borrow.CowStr.{CowStr}
use Rattle.std.specs.Cow.{cow_str_bytes}
use Rattle.jiter_value.specs.declared.parse.turns.duplicate_keys.DuplicateKeyIndex.{DuplicateKeyIndex}
use Rattle.jiter_value.specs.declared.parse.turns.duplicate_keys.BucketSlot.{BucketSlot}

-- the set has a key of these bytes
abbrev pub has_text : BTreeSet (CowStr Global) → List ℕ → Bool
has_text s k = contains_by (λ c. slice_cmp nat_cmp k (cow_str_bytes c)) s

-- The mark of a key, made of its last bytes, up to 32: the mark so far is m.
unfoldable pub mark_on : ℕ → List ℕ → ℕ
mark_on m [] = m
mark_on m (b ∷ bs) = mark_on ((m + b) % 2 ^ 64 * 11400714819323198485 % 2 ^ 64) bs

abbrev pub hash_of : List ℕ → ℕ
hash_of k = mark_on 0 (drop (length k - 32) k)

-- where its bucket of eight begins, among n slots
abbrev pub bucket_of : List ℕ → ℕ → ℕ
bucket_of k n = hash_of k / 4294967296 % (n / 8) * 8

-- From i to before j each slot has a member.
abbrev pub AreTaken : List ℕ → ℕ → ℕ → Type 0
AreTaken slots i j = (q : ℕ) → i ≤ q → q < j → 0 < get_or slots q 0

-- The place is where the slots of this key's bucket end that have a member.
pub record IsPlaceOf (slots k : List ℕ) (p : BucketSlot) : Type 0 where
  pub bucket : p.bucket ≡ bucket_of k (length slots)
  pub inside : p.bucket + 8 ≤ length slots
  pub above : p.bucket ≤ p.at
  pub below : p.at ≤ p.bucket + 8
  pub taken : AreTaken slots p.bucket p.at
  pub free : p.at < p.bucket + 8 → get_or slots p.at 0 ≡ 0

-- This key is that of the member up to and with which n lie.
abbrev pub IsKeyOf : List (List ℕ) → ℕ → List ℕ → Type 0
IsKeyOf ks n k = (i : ℕ) × (n ≡ i + 1) × (i < length ks) × (bytes_eq k (get_or ks i []) ≡ true)

-- This key is not that of the member up to and with which n lie.
abbrev pub IsNoKeyOf : List (List ℕ) → ℕ → List ℕ → Type 0
IsNoKeyOf ks n k = (i : ℕ) → n ≡ i + 1 → i < length ks → bytes_eq k (get_or ks i []) ≡ false

-- This key is that of a member that a slot before the place names.
abbrev pub IsSomewhere : List (List ℕ) → List ℕ → BucketSlot → List ℕ → Type 0
IsSomewhere ks slots p k = (q : ℕ) × (p.bucket ≤ q) × (q < p.at) × IsKeyOf ks (get_or slots q 0) k

-- This key is that of none of the members that the slots before the place name.
abbrev pub IsNowhere : List (List ℕ) → List ℕ → BucketSlot → List ℕ → Type 0
IsNowhere ks slots p k = (q : ℕ) → p.bucket ≤ q → q < p.at → IsNoKeyOf ks (get_or slots q 0) k

-- The i-th member, whose key this is, has one of these slots, in its key's bucket among n; or all slots there have
-- members, and the key is among the rest.
pub record Holds (n : ℕ) (slots : List ℕ) (rest : BTreeSet (CowStr Global)) (k : List ℕ) (i : ℕ) : Type 0 where
  pub at : ℕ
  pub above : bucket_of k n ≤ at
  pub taken : AreTaken slots (bucket_of k n) at
  pub there : ((at < bucket_of k n + 8) × (get_or slots at 0 ≡ i + 1))
      ⊎ ((at ≡ bucket_of k n + 8) × (has_text rest k ≡ true))

-- Of these keys, the set has those from its base to before its end.
pub record HasKeys (ks : List (List ℕ)) (s : DuplicateKeyIndex) : Type 0 where
  pub room : 8 ≤ length s.slots.items
  pub begun : s.base ≤ s.end
  pub keys : (i : ℕ) → s.base ≤ i → i < s.end → i < length ks
      → Holds (length s.slots.items) s.slots.items s.rest (get_or ks i []) i

-- The same, where they reach up to its end.
pub record IsUpToDate (ks : List (List ℕ)) (s : DuplicateKeyIndex) : Type 0 where
  pub keys : HasKeys ks s
  pub within : s.end ≤ length ks

-- This key, if it is at the set's end, is put in.
pub record Adds (k : List ℕ) (old new : DuplicateKeyIndex) : Type 0 where
  pub base : new.base ≡ old.base
  pub end : new.end ≡ old.end + 1
  pub keys : (ks : List (List ℕ)) → HasKeys ks old → get_or ks old.end [] ≡ k → HasKeys ks new
