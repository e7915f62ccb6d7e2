-- Members that are left, put or pushed: which of the keys that there were they have.
use Rattle.jiter_value.proofs.Words.{◌≡◌, ℕ, ◌≤◌, List, [], ◌∷◌, ◌++◌, length, take, get_or, refl, sym, ap, ◌∙◌, arith}
use Rattle.jiter_value.proofs.Words.{slice_set, OnOk, take_all, take-take, take-append-le, length-map, length-take}
use Rattle.jiter_value.proofs.Words.{map_push, Global, CowStr, text_view, HaveKeys, LeavesKeys, Member, keys_of}
use Rattle.jiter_value.proofs.Words.{outcome, Stacks, State, JsonValue}
use Rattle.std.specs.Prelude.{min}
use Rattle.std.proofs.Math.Seq.{map-set_same}
use Rattle.std.proofs.lemmas.List.{take-map}
use Rattle.std.proofs.lemmas.List.{take_min}
use Rattle.jiter_value.specs.declared.parse.stacks.State.TheVariants as state

-- as many keys as members
pub key_count : (ms : List Member) → length (keys_of ms) ≡ length ms
key_count ms = length-map ms _

-- All are left, each with its key,
pub leaves-same : (old new : List Member) → keys_of new ≡ keys_of old → LeavesKeys old new
leaves-same old new is =
    let many : length (keys_of old) ≤ length new = omega (arith, key_count new, ap length is) in
    record { keys = is ∙ sym (take_all (length new) (keys_of old) many) }

pub leaves-all : (ms : List Member) → LeavesKeys ms ms
leaves-all ms = leaves-same ms ms refl

-- the first ones are left,
pub leaves-taken : (n : ℕ) (old new : List Member) → new ≡ take n old → LeavesKeys old new
leaves-taken n old new is =
    let many : min n (length (keys_of old)) ≡ length new =
    ap (min n) (key_count old) ∙ sym (length-take n old) ∙ sym (ap length is) in
    record {
      keys = ap keys_of is ∙ sym (take-map _ n old) ∙ sym (take_min n (keys_of old))
          ∙ ap (λ k. take k (keys_of old)) many;
    }

-- some are left of those that were left,
pub leaves-then : (old mid new : List Member) → LeavesKeys old mid → LeavesKeys mid new → LeavesKeys old new
leaves-then old mid new first then =
    let n = length new in
    let few : n ≤ length mid =
    omega (arith, key_count new, key_count mid, ap length then.keys, length-take n (keys_of mid)) in
    record { keys = then.keys ∙ ap (take n) first.keys ∙ take-take n (length mid) (keys_of old) few }

-- or the last one's value is set.
pub leaves-set : (ms : List Member) (n : ℕ) (v : JsonValue) (got : Member) → got ≡ get_or ms n got
    → LeavesKeys ms (slice_set ms n (got.0, v))
leaves-set ms n v got at =
    leaves-same ms (slice_set ms n (got.0, v))
    (map-set_same _ ms n (got.0, v) got (ap (λ m. (text_view m.0).bytes) at))

-- Where one is pushed, its key is after those of before.
pub pushed-keys : (old new : List Member) (key : CowStr Global) (v : JsonValue) → new ≡ old ++ (key, v) ∷ []
    → HaveKeys (keys_of old ++ (text_view key).bytes ∷ []) new
pushed-keys old new key v pushed =
    let all : keys_of new ≡ keys_of old ++ (text_view key).bytes ∷ [] = ap keys_of pushed ∙ map_push _ old (key, v) in
    let many : length (keys_of old ++ (text_view key).bytes ∷ []) ≤ length new =
    omega (arith, key_count new, ap length all) in
    all ∙ sym (take_all (length new) (keys_of old ++ (text_view key).bytes ∷ []) many)

-- Those that are left have the first of their keys and of any after them.
pub left-keys : (old new : List Member) (more : List (List ℕ)) → LeavesKeys old new → HaveKeys (keys_of old ++ more) new
left-keys old new more left =
    let n = length new in
    let few : n ≤ length (keys_of old) =
    omega (arith, key_count new, ap length left.keys, length-take n (keys_of old)) in
    left.keys ∙ sym (take-append-le n (keys_of old) more few)

-- The same, where the reading goes on.
pub kept-on : (s : Stacks) (a : State) {P : Type 0} → P → OnOk (outcome s a) P
kept-on s state.Root h = h
kept-on s state.Item h = h
kept-on s state.Member h = h
kept-on s state.Key h = h
kept-on s state.Done h = h
kept-on s state.GivenUp h = tt

pub weaker-on : (s : Stacks) (a : State) {P Q : Type 0} → (P → Q) → OnOk (outcome s a) P → OnOk (outcome s a) Q
weaker-on s state.Root f h = f h
weaker-on s state.Item f h = f h
weaker-on s state.Member f h = f h
weaker-on s state.Key f h = f h
weaker-on s state.Done f h = f h
weaker-on s state.GivenUp f h = tt

pub leaves-on : (s : Stacks) (a : State) (old mid new : List Member) → LeavesKeys old mid
    → OnOk (outcome s a) (LeavesKeys mid new) → OnOk (outcome s a) (LeavesKeys old new)
leaves-on s a old mid new first = weaker-on s a (leaves-then old mid new first)
