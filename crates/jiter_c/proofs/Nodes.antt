-- The nodes of a document, one part after another: how many, and which.
use Rattle.std.proofs.Common.{◌≡◌, ◌∙◌, ◌<◌, ◌≤◌, ◌+◌, ◌-◌, ◌^◌, ◌++◌, ℕ, suc, List, [], ◌∷◌, length, min, drop, take, get_or}
use Rattle.std.proofs.Common.{refl, sym, ap, ap₂, arith, length-append, length-drop, drop-cons, add-one}
use Rattle.std.proofs.lemmas.List.{drop_all, take_all}
use Rattle.jiter_steps.specs.Tree.{Tree, null, boolean, int, big, float, string, array, object}
use Rattle.jiter_steps.specs.Tree.{Items, no_items, item, Members, no_members, member}
use Rattle.jiter_steps.specs.StringDecoder.{text_view}
use Rattle.jiter_value.specs.Stacks.{Member}
use Rattle.jiter_value.specs.Value.{view, views, member_views}
use Rattle.jiter_value.specs.declared.value.JsonValue.{JsonValue}
use Rattle.jiter_c.specs.Reports.{written}
use Rattle.jiter_c.specs.Values.{count_items, count_members}
use borrow.Rule.Slice.PartMut.{mid_of, put_mid}
use Rattle.jiter_c.specs.Walk.{capped, headed, item_nodes, item_texts, laid, member_nodes, member_texts, nodes_of, parts_of, texts_of}
use Rattle.jiter_c.specs.declared.walk.JiterNode.{JiterNode}
use Rattle.jiter_c.proofs.Appending.{to_the_end}
use Rattle.jiter_c.proofs.Members.{items_counted, members_counted}

-- How many nodes a value's parts have does not depend on where their texts begin.
mutual
  same-parts : (a b : ℕ) (v : Tree) → length (parts_of a v) ≡ length (parts_of b v)
  same-parts a b null = refl
  same-parts a b (boolean t) = refl
  same-parts a b (int z) = refl
  same-parts a b (big s) = refl
  same-parts a b (float s) = refl
  same-parts a b (string s) = refl
  same-parts a b (array is) = same-items a b is
  same-parts a b (object ms) = same-members a b ms

  same-items : (a b : ℕ) (is : Items) → length (item_nodes a is) ≡ length (item_nodes b is)
  same-items a b no_items = refl
  same-items a b (item v is) =
      let n = length (texts_of v) in
      omega (
        arith,
        same-parts a b v,
        same-items (a + n) (b + n) is,
        length-append (headed a 0 (count_items is) v (parts_of a v)) (item_nodes (a + n) is),
        length-append (headed b 0 (count_items is) v (parts_of b v)) (item_nodes (b + n) is),
      )

  same-members : (a b : ℕ) (ms : Members) → length (member_nodes a ms) ≡ length (member_nodes b ms)
  same-members a b no_members = refl
  same-members a b (member k v ms) =
      let key = length k.bytes in
      let n = length (texts_of v) in
      omega (
        arith,
        same-parts (a + key) (b + key) v,
        same-members (a + key + n) (b + key + n) ms,
        length-append (headed (a + key) key (count_members ms) v (parts_of (a + key) v)) (member_nodes (a + key + n) ms),
        length-append (headed (b + key) key (count_members ms) v (parts_of (b + key) v)) (member_nodes (b + key + n) ms),
      )

-- one part more
capped-more : (n p r m total : ℕ) → m ≡ min (n + capped p) (2 ^ 64 - 1) → capped (n + (p + r)) ≡ total
    → capped (m + r) ≡ total
capped-more n p r m total is done = let e : capped (m + r) ≡ capped (n + (p + r)) = omega (arith, is) in e ∙ done

capped-twice : (n key p r x m total : ℕ) → x ≡ min (n + key) (2 ^ 64 - 1) → m ≡ min (x + capped p) (2 ^ 64 - 1)
    → capped (n + (key + (p + r))) ≡ total → capped (m + r) ≡ total
capped-twice n key p r x m total first is done =
    let e : capped (m + r) ≡ capped (n + (key + (p + r))) = omega (arith, first, is) in e ∙ done

-- no part left
capped-end : (n k total : ℕ) → k ≡ 0 → n ≤ 2 ^ 64 - 1 → capped (n + k) ≡ total → n ≡ total
capped-end n k total none small done = let e : n ≡ capped (n + k) = omega (arith, none, small) in e ∙ done

-- what is left from an index on
from-index : {X : Type 0} (xs : List X) (i : ℕ) (x : X) → i < length xs → x ≡ get_or xs i x
    → drop i xs ≡ x ∷ drop (i + 1) xs
from-index xs i x lt is =
    drop-cons xs i x lt ∙ ap₂ (λ y k. y ∷ drop k xs) (sym is) (sym (add-one i))

-- items from an index on
module _ (vs : List JsonValue) (i : ℕ) (v : JsonValue) (lt : i < length vs) (is : v ≡ get_or vs i v) where
  abbrev rest : Items
  rest = views (drop (i + 1) vs)

  pub item-nodes : (at left : ℕ) → left + 1 + i ≡ length vs
      → item_nodes at (views (drop i vs)) ≡ nodes_of at 0 left (view v) ++ item_nodes (at + length (texts_of (view v))) rest
  item-nodes at left count =
      let counted : count_items rest ≡ left = items_counted (drop (i + 1) vs) ∙ omega (arith, count, length-drop (i + 1) vs) in
      ap (λ xs. item_nodes at (views xs)) (from-index vs i v lt is)
      ∙ ap (λ k. nodes_of at 0 k (view v) ++ item_nodes (at + length (texts_of (view v))) rest) counted

  pub item-texts : item_texts (views (drop i vs)) ≡ texts_of (view v) ++ item_texts rest
  item-texts = ap (λ xs. item_texts (views xs)) (from-index vs i v lt is)

  pub item-counted : (at n m total : ℕ) → m ≡ min (n + capped (suc (length (parts_of at (view v))))) (2 ^ 64 - 1)
      → capped (n + length (item_nodes at (views (drop i vs)))) ≡ total
      → capped (m + length (item_nodes at rest)) ≡ total
  item-counted at n m total more done =
      let left = count_items rest in
      let here : length (item_nodes at (views (drop i vs))) ≡ suc (length (parts_of at (view v))) + length (item_nodes at rest) =
      ap (λ xs. length (item_nodes at (views xs))) (from-index vs i v lt is)
      ∙ length-append (nodes_of at 0 left (view v)) (item_nodes (at + length (texts_of (view v))) rest)
      ∙ ap (λ k. suc (length (parts_of at (view v))) + k) (same-items (at + length (texts_of (view v))) at rest) in
      capped-more n (suc (length (parts_of at (view v)))) (length (item_nodes at rest)) m total more
      (ap (λ k. capped (n + k)) (sym here) ∙ done)

  pub item-measured : (n m total : ℕ) → m ≡ min (n + capped (length (texts_of (view v)))) (2 ^ 64 - 1)
      → capped (n + length (item_texts (views (drop i vs)))) ≡ total → capped (m + length (item_texts rest)) ≡ total
  item-measured n m total more done =
      capped-more n (length (texts_of (view v))) (length (item_texts rest)) m total more
      (ap (λ k. capped (n + k)) (sym (ap length item-texts ∙ length-append (texts_of (view v)) (item_texts rest))) ∙ done)

-- members from an index on
module _ (vs : List Member) (i : ℕ) (m : Member) (lt : i < length vs) (is : m ≡ get_or vs i m) where
  abbrev others : Members
  others = member_views (drop (i + 1) vs)

  abbrev key : List ℕ
  key = (text_view m.0).bytes

  abbrev value : Tree
  value = view m.1

  pub member-nodes : (at here n left : ℕ) → n ≡ length key → here ≡ at + n → left + 1 + i ≡ length vs
      → member_nodes at (member_views (drop i vs))
      ≡ nodes_of here n left value ++ member_nodes (here + length (texts_of value)) others
  member-nodes at here n left long place count =
      let counted : count_members others ≡ left = members_counted (drop (i + 1) vs) ∙ omega (arith, count, length-drop (i + 1) vs) in
      let begun : at + length key ≡ here = omega (arith, long, place) in
      ap (λ xs. member_nodes at (member_views xs)) (from-index vs i m lt is)
      ∙ ap (λ k. nodes_of (at + length key) (length key) k value
      ++ member_nodes (at + length key + length (texts_of value)) others) counted
      ∙ ap₂ (λ h k. nodes_of h k left value ++ member_nodes (h + length (texts_of value)) others) begun (sym long)

  pub member-texts : member_texts (member_views (drop i vs)) ≡ key ++ (texts_of value ++ member_texts others)
  member-texts = ap (λ xs. member_texts (member_views xs)) (from-index vs i m lt is)

  pub member-counted : (at n k total : ℕ) → k ≡ min (n + capped (suc (length (parts_of (at + length key) value)))) (2 ^ 64 - 1)
      → capped (n + length (member_nodes at (member_views (drop i vs)))) ≡ total
      → capped (k + length (member_nodes at others)) ≡ total
  member-counted at n k total more done =
      let left = count_members others in
      let parts = length (parts_of (at + length key) value) in
      let past = at + length key + length (texts_of value) in
      let here : length (member_nodes at (member_views (drop i vs))) ≡ suc parts + length (member_nodes at others) =
      ap (λ xs. length (member_nodes at (member_views xs))) (from-index vs i m lt is)
      ∙ length-append (nodes_of (at + length key) (length key) left value) (member_nodes past others)
      ∙ ap (λ j. suc parts + j) (same-members past at others) in
      capped-more n (suc parts) (length (member_nodes at others)) k total more (ap (λ j. capped (n + j)) (sym here) ∙ done)

  pub member-measured : (n x k total : ℕ) → x ≡ min (n + length key) (2 ^ 64 - 1)
      → k ≡ min (x + capped (length (texts_of value))) (2 ^ 64 - 1)
      → capped (n + length (member_texts (member_views (drop i vs)))) ≡ total
      → capped (k + length (member_texts others)) ≡ total
  member-measured n x k total first more done =
      capped-twice n (length key) (length (texts_of value)) (length (member_texts others)) x k total first more
      (ap (λ j. capped (n + j)) (sym (ap length member-texts ∙ length-append key (texts_of value ++ member_texts others)
      ∙ ap (λ j. length key + j) (length-append (texts_of value) (member_texts others)))) ∙ done)

-- after the last part
pub items-end : (vs : List JsonValue) (i : ℕ) → length vs ≤ i → views (drop i vs) ≡ no_items
items-end vs i h = ap views (drop_all i vs h)

pub members-end : (vs : List Member) (i : ℕ) → length vs ≤ i → member_views (drop i vs) ≡ no_members
members-end vs i h = ap member_views (drop_all i vs h)

pub counted-end : (xs : List JiterNode) (n total : ℕ) → xs ≡ [] → n ≤ 2 ^ 64 - 1 → capped (n + length xs) ≡ total → n ≡ total
counted-end xs n total none small done = capped-end n (length xs) total (ap length none) small done

pub measured-end : (xs : List ℕ) (n total : ℕ) → xs ≡ [] → n ≤ 2 ^ 64 - 1 → capped (n + length xs) ≡ total → n ≡ total
measured-end xs n total none small done = capped-end n (length xs) total (ap length none) small done

-- a key that fits, written from an index on
pub key-put : (a : ℕ) (key name old part : List ℕ) → key ≡ name → a ≤ length old → length name ≤ length (drop a old)
    → part ≡ written key (mid_of a (length old - a) old)
    → put_mid a (length old - a) old part ≡ take a old ++ laid name (drop a old)
key-put a key name old part same within room is =
    to_the_end (written key) a old part within is
    ∙ ap (λ k. take a old ++ (take (length (drop a old)) k ++ drop (length k) (drop a old))) same
    ∙ ap (λ xs. take a old ++ (xs ++ drop (length name) (drop a old))) (take_all (length (drop a old)) name room)
