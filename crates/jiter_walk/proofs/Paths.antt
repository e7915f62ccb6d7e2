-- The part of a container that holds a byte, and the path on from it.
use Rattle.std.proofs.Common.{◌≡◌, ◌∙◌, ℕ, ◌+◌, ◌-◌, ◌^◌, ◌<◌, ◌≤◌, Bool, true, false, List, [], ◌++◌, length, refl, sym, ap}
use Rattle.std.proofs.Common.{subst, arith}
use Rattle.std.specs.Prelude.{IfSome, Option, Some, None, if◌then◌else◌, min, option_map}
use Rattle.jiter_steps.specs.Node.{nesting_limit}
use Rattle.jiter_steps.specs.declared.parse.ContainerKind.TheVariants as shape
use Rattle.jiter_steps.proofs.Grammar.RowSteps.{PartAt}
use Rattle.jiter_steps.proofs.Grammar.ScalarLaws.{EndsNumber}
use Rattle.jiter_steps.proofs.Grammar.SpelledParts.{IsItem, IsMember, Items, Members, begin-within, items-parts}
use Rattle.jiter_steps.proofs.Grammar.SpelledParts.{key-ahead, members-parts, members_list, node-ahead, nodes_list}
use Rattle.jiter_steps.proofs.Reading.Parts.{MoreParts, after-ahead}
use Rattle.jiter.specs.Caller.{Node, NodeMembers, Nodes, ReaderState, at_start, begin, end, with_position}
use Rattle.jiter.proofs.Members.{place-there}
use Rattle.jiter_walk.specs.Path.{holds, item_token, key_token, path_in, path_in_items, path_in_members}
use Rattle.jiter_walk.specs.Search.{Sought, found_if, item_part, item_passed, member_part, member_passed, part_of}
use Rattle.jiter_walk.specs.Shown.{gives-same}
use Rattle.jiter_walk.specs.Walk.{Comes, gives, items_walked, key_text, members_walked}

module _ (t : List ℕ) where
  abbrev pub reader : ℕ → ReaderState
  reader p = with_position (at_start t) p

  -- a value that comes next from its begin on, after b
  pub record Inside (b : ℕ) (n : Node) : Type 0 where
    pub ahead : b < begin n
    pub comes : Comes (reader (begin n)) n

  inside : (b i e : ℕ) (n : Node) → IsItem false t nesting_limit i n e → b < i → Inside b n
  inside b i e n h ahead = record {
    ahead = omega (arith, h.begins, ahead);
    comes = record {
      strict = refl;
      place = place-there false t n h.spelled (begin n) refl;
      spelled = h.spelled;
      limit = omega (arith, h.limit);
      quiet = subst (EndsNumber t) (sym h.ends) h.quiet;
    };
  }

  -- such values one after another
  abbrev pub AllInside : ℕ → Nodes → Type 0
  AllInside b Nodes.no_nodes = Unit {0}
  AllInside b (Nodes.node n ns) = Inside b n × AllInside (begin n) ns

  abbrev pub MembersInside : ℕ → NodeMembers → Type 0
  MembersInside b NodeMembers.no_members = Unit {0}
  MembersInside b (NodeMembers.member k n ms) = Inside b n × MembersInside (begin n) ms

  more-inside : (ns : Nodes) (b i e : ℕ)
      → MoreParts t 93 (PartAt shape.Array t) (IsItem false t nesting_limit) (nodes_list ns) i e → b ≤ i → AllInside b ns
  more-inside Nodes.no_nodes b i e h le = tt
  more-inside (Nodes.node n ns) b i e h le =
      let p = h.2 in (
        inside b p.begin p.end n p.is (omega (arith, le, after-ahead t i 44 h.0 h.1, p.blanks.ordered)),
        more-inside ns (begin n) p.end e p.rest
            (omega (arith, p.is.ends, node-ahead false t n p.is.spelled)),
      )

  items-inside : (ns : Nodes) (b i e : ℕ) → Items false t nesting_limit (nodes_list ns) i e → b < i → AllInside b ns
  items-inside Nodes.no_nodes b i e h le = tt
  items-inside (Nodes.node n ns) b i e h le = (
    inside b h.begin h.end n h.is (omega (arith, le, h.blanks.ordered)),
    more-inside ns (begin n) h.end e h.rest (omega (arith, h.is.ends, node-ahead false t n h.is.spelled)),
  )

  more_members-inside : (ms : NodeMembers) (b i e : ℕ)
      → MoreParts t 125 (PartAt shape.Object t) (IsMember false t nesting_limit) (members_list ms) i e → b ≤ i
      → MembersInside b ms
  more_members-inside NodeMembers.no_members b i e h le = tt
  more_members-inside (NodeMembers.member k n ms) b i e h le =
      let p = h.2 in
      let key = key-ahead false t k (begin n) p.is.key in (
        inside b (begin n) p.end n p.is.value
            (omega (arith, le, after-ahead t i 44 h.0 h.1, p.blanks.ordered, p.is.begins, key)),
        more_members-inside ms (begin n) p.end e p.rest
            (omega (arith, p.is.value.ends, node-ahead false t n p.is.value.spelled)),
      )

  members-inside : (ms : NodeMembers) (b i e : ℕ) → Members false t nesting_limit (members_list ms) i e → b < i
      → MembersInside b ms
  members-inside NodeMembers.no_members b i e h le = tt
  members-inside (NodeMembers.member k n ms) b i e h le =
      let key = key-ahead false t k (begin n) h.is.key in (
        inside b (begin n) h.end n h.is.value (omega (arith, le, h.blanks.ordered, h.is.begins, key)),
        more_members-inside ms (begin n) h.end e h.rest
            (omega (arith, h.is.value.ends, node-ahead false t n h.is.value.spelled)),
      )

  pub array-inside : (p b e : ℕ) (ns : Nodes) → Comes (reader p) (Node.array b e ns) → AllInside b ns
  array-inside p b e ns h =
      items-inside ns b (b + 1) e (items-parts false t nesting_limit ns (b + 1) e h.spelled.1 h.limit) (omega arith)

  pub object-inside : (p b e : ℕ) (ms : NodeMembers) → Comes (reader p) (Node.object b e ms) → MembersInside b ms
  object-inside p b e ms h =
      members-inside ms b (b + 1) e (members-parts false t nesting_limit ms (b + 1) e h.spelled.1 h.limit) (omega arith)

  -- ---- what is found
  abbrev or_else : Option (List ℕ × ℕ) → Option (List ℕ × ℕ) → Option (List ℕ × ℕ)
  or_else (Some p) o = Some p
  or_else None o = o

  abbrev begun : Option (List ℕ × Node) → Option (List ℕ × ℕ)
  begun = option_map (λ p. (p.0, begin p.1))

  or-none : (f : Option (List ℕ × ℕ)) → f ≡ or_else f None
  or-none (Some p) = refl
  or-none None = refl

  found-on : (f : Option (List ℕ × ℕ)) (here : Bool) (q : List ℕ × Node) (o : Option (List ℕ × Node))
      → or_else (found_if f here (q.0, begin q.1)) (begun o) ≡ or_else f (begun (if here then Some q else o))
  found-on (Some p) here q o = refl
  found-on None true q o = refl
  found-on None false q o = refl

  pub items-found : (ns : Nodes) (b k i : ℕ) (f : Option (List ℕ × ℕ)) (r : Sought) → AllInside b ns → k ≤ b
      → length t ≤ 2 ^ 64 - 1
      → items_walked item_passed t (record { index = i; passed = k; found = f }) ns ≡ gives r
      → r.found ≡ or_else f (begun (item_part i k ns))
  items-found Nodes.no_nodes b k i f r all le room is =
      ap (λ (s : Sought). s.found) (sym (gives-same {C = Unit {0}} _ r is)) ∙ or-none f
  items-found (Nodes.node n ns) b k i f r all le room is =
      let within = begin-within false t n all.0.comes.spelled in
      let next : min (k + 1) (2 ^ 64 - 1) ≡ k + 1 = grind (arith, le, all.0.ahead, within, room) in
      let found = found_if f (holds i (begin n) (end n)) (item_token k, begin n) in
      items-found ns (begin n) (k + 1) i found r all.1 (omega (arith, le, all.0.ahead)) room
      (subst (λ m. items_walked item_passed t (record { index = i; passed = m; found = found }) ns ≡ gives r) next is)
      ∙ found-on f (holds i (begin n) (end n)) (item_token k, n) (item_part i (k + 1) ns)

  pub members-found : (ms : NodeMembers) (i k : ℕ) (f : Option (List ℕ × ℕ)) (r : Sought)
      → members_walked member_passed t (record { index = i; passed = k; found = f }) ms ≡ gives r
      → r.found ≡ or_else f (begun (member_part t i ms))
  members-found NodeMembers.no_members i k f r is =
      ap (λ (s : Sought). s.found) (sym (gives-same {C = Unit {0}} _ r is)) ∙ or-none f
  members-found (NodeMembers.member key n ms) i k f r is =
      let here = holds i key.begin (end n) in
      members-found ms i k (found_if f here (key_token (key_text t key), begin n)) r is
      ∙ found-on f here (key_token (key_text t key), n) (member_part t i ms)

  -- ---- the path on from it
  module _ (i : ℕ) where
    abbrev pub onward : Option (List ℕ × Node) → List ℕ
    onward None = []
    onward (Some p) = p.0 ++ path_in t i p.1

    items-path : (k : ℕ) (ns : Nodes) → path_in_items t i k ns ≡ onward (item_part i k ns)
    items-path k Nodes.no_nodes = refl
    items-path k (Nodes.node n ns) = by (holds i (begin n) (end n)) (items-path (k + 1) ns) where
      by : (here : Bool) → path_in_items t i (k + 1) ns ≡ onward (item_part i (k + 1) ns)
          → (if here then item_token k ++ path_in t i n else path_in_items t i (k + 1) ns)
          ≡ onward (if here then Some (item_token k, n) else item_part i (k + 1) ns)
      by true more = refl
      by false more = more

    members-path : (ms : NodeMembers) → path_in_members t i ms ≡ onward (member_part t i ms)
    members-path NodeMembers.no_members = refl
    members-path (NodeMembers.member k n ms) = by (holds i k.begin (end n)) (members-path ms) where
      by : (here : Bool) → path_in_members t i ms ≡ onward (member_part t i ms)
          → (if here then key_token (key_text t k) ++ path_in t i n else path_in_members t i ms)
          ≡ onward (if here then Some (key_token (key_text t k), n) else member_part t i ms)
      by true more = refl
      by false more = more

    pub path-on : (n : Node) → path_in t i n ≡ onward (part_of t i n)
    path-on (Node.array b e ns) = items-path 0 ns
    path-on (Node.object b e ms) = members-path ms
    path-on (Node.literal l b e) = refl
    path-on (Node.number b e) = refl
    path-on (Node.string ps b e) = refl

    -- ---- what comes next there
    abbrev PartInside : ℕ → Option (List ℕ × Node) → Type 0
    PartInside b o = IfSome o (λ p. Inside b p.1)

    after-part : (b c : ℕ) (o : Option (List ℕ × Node)) → b < c → PartInside c o → PartInside b o
    after-part b c None lt h = tt
    after-part b c (Some p) lt h = record { ahead = omega (arith, lt, h.ahead); comes = h.comes }

    item-inside : (k b : ℕ) (ns : Nodes) → AllInside b ns → PartInside b (item_part i k ns)
    item-inside k b Nodes.no_nodes all = tt
    item-inside k b (Nodes.node n ns) all =
        by (holds i (begin n) (end n))
        (after-part b (begin n) (item_part i (k + 1) ns) all.0.ahead (item-inside (k + 1) (begin n) ns all.1)) where
          by : (here : Bool) → PartInside b (item_part i (k + 1) ns) → PartInside b (if here then Some (item_token k, n) else item_part i (k + 1) ns)
          by true more = all.0
          by false more = more

    member-inside : (b : ℕ) (ms : NodeMembers) → MembersInside b ms → PartInside b (member_part t i ms)
    member-inside b NodeMembers.no_members all = tt
    member-inside b (NodeMembers.member k n ms) all =
        by (holds i k.begin (end n))
        (after-part b (begin n) (member_part t i ms) all.0.ahead (member-inside (begin n) ms all.1)) where
          by : (here : Bool) → PartInside b (member_part t i ms) → PartInside b (if here then Some (key_token (key_text t k), n) else member_part t i ms)
          by true more = all.0
          by false more = more

    pub part-inside : (p : ℕ) (n : Node) → Comes (reader p) n → PartInside (begin n) (part_of t i n)
    part-inside p (Node.array b e ns) h = item-inside 0 b ns (array-inside p b e ns h)
    part-inside p (Node.object b e ms) h = member-inside b ms (object-inside p b e ms h)
    part-inside p (Node.literal l b e) h = tt
    part-inside p (Node.number b e) h = tt
    part-inside p (Node.string ps b e) h = tt
