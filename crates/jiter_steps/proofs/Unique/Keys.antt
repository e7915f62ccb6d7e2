-- Unique keys of a list of members: what one more member adds.
use Rattle.jiter_steps.proofs.Words.{◌≡◌, ◌≢◌, Bool, true, false, ◌||◌, List, [], ◌∷◌, ◌++◌, ℕ, map, refl, sym, ◌∙◌}
use Rattle.jiter_steps.proofs.Words.{true≢false, Key, Node, text_of, HasUniqueKeys, ItemsHaveUniqueKeys}
use Rattle.jiter_steps.proofs.Words.{MembersHaveUniqueKeys, is_among, or_parts, bytes_eq-Decides, bytes_eq, HasNoKey}
use Rattle.jiter_steps.proofs.Grammar.NodeRules.{nodes_of, node_members_of}

-- a key's characters
abbrev pub characters : Key → List ℕ
characters k = text_of k.pieces

abbrev pub all_characters : List (Key × Node) → List (List ℕ)
all_characters ms = map (λ m. characters m.0) ms

-- items
pub items-prefix : (ns ms : List Node) → ItemsHaveUniqueKeys (nodes_of (ns ++ ms)) → ItemsHaveUniqueKeys (nodes_of ns)
items-prefix [] ms h = tt
items-prefix (n ∷ ns) ms h = (h.0, items-prefix ns ms h.1)

pub items-last : (ns : List Node) (n : Node) → ItemsHaveUniqueKeys (nodes_of (ns ++ n ∷ [])) → HasUniqueKeys n
items-last [] n h = h.0
items-last (m ∷ ns) n h = items-last ns n h.1

pub items-push : (ns : List Node) (n : Node) → ItemsHaveUniqueKeys (nodes_of ns) → HasUniqueKeys n
    → ItemsHaveUniqueKeys (nodes_of (ns ++ n ∷ []))
items-push [] n h is = (is, tt)
items-push (m ∷ ns) n h is = (h.0, items-push ns n h.1 is)

-- members
no_key-prefix : (key : List ℕ) (ms ns : List (Key × Node)) → HasNoKey key (node_members_of (ms ++ ns))
    → HasNoKey key (node_members_of ms)
no_key-prefix key [] ns h = tt
no_key-prefix key (m ∷ ms) ns h = (h.0, no_key-prefix key ms ns h.1)

no_key-last : (key : List ℕ) (ms : List (Key × Node)) (m : Key × Node)
    → HasNoKey key (node_members_of (ms ++ m ∷ [])) → characters m.0 ≢ key
no_key-last key [] m h = h.0
no_key-last key (n ∷ ms) m h = no_key-last key ms m h.1

no_key-push : (key : List ℕ) (ms : List (Key × Node)) (m : Key × Node) → HasNoKey key (node_members_of ms)
    → characters m.0 ≢ key → HasNoKey key (node_members_of (ms ++ m ∷ []))
no_key-push key [] m h other = (other, tt)
no_key-push key (n ∷ ms) m h other = (h.0, no_key-push key ms m h.1 other)

pub members-prefix : (ms ns : List (Key × Node)) → MembersHaveUniqueKeys (node_members_of (ms ++ ns))
    → MembersHaveUniqueKeys (node_members_of ms)
members-prefix [] ns h = tt
members-prefix (m ∷ ms) ns h = (no_key-prefix (characters m.0) ms ns h.0, h.1, members-prefix ms ns h.2)

pub members-last : (ms : List (Key × Node)) (m : Key × Node)
    → MembersHaveUniqueKeys (node_members_of (ms ++ m ∷ [])) → HasUniqueKeys m.1
members-last [] m h = h.1
members-last (n ∷ ms) m h = members-last ms m h.2

pub members-push : (ms : List (Key × Node)) (m : Key × Node) → is_among (characters m.0) (all_characters ms) ≡ false
    → MembersHaveUniqueKeys (node_members_of ms) → HasUniqueKeys m.1
    → MembersHaveUniqueKeys (node_members_of (ms ++ m ∷ []))
members-push [] m new h is = (tt, is, tt)
members-push (n ∷ ms) m new h is =
    let b = bytes_eq (characters m.0) (characters n.0) in
    let split = or_parts b (is_among (characters m.0) (all_characters ms)) new in
    let other : characters m.0 ≢ characters n.0 =
    λ e. true≢false (sym ((bytes_eq-Decides (characters m.0) (characters n.0)).1 e) ∙ split.0) in
    (no_key-push (characters n.0) ms m h.0 other, h.1, members-push ms m split.1 h.2 is)

pub members-clash : (ms : List (Key × Node)) (m : Key × Node) → is_among (characters m.0) (all_characters ms) ≡ true
    → MembersHaveUniqueKeys (node_members_of (ms ++ m ∷ [])) → ⊥
members-clash [] m old h = true≢false (sym old)
members-clash (n ∷ ms) m old h =
    by (bytes_eq (characters m.0) (characters n.0)) refl old (λ also. members-clash ms m also h.2) where
      by : (b : Bool) → bytes_eq (characters m.0) (characters n.0) ≡ b
          → (b || is_among (characters m.0) (all_characters ms)) ≡ true
          → (is_among (characters m.0) (all_characters ms) ≡ true → ⊥) → ⊥
      by true e also later =
          no_key-last (characters n.0) ms m h.0 ((bytes_eq-Decides (characters m.0) (characters n.0)).0 e)
      by false e also later = later also
