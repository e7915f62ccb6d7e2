-- What lists and values that may be `null` give, and what the tree then has. No proof here calls a tactic.
use Rattle.std.proofs.Common.{◌≡◌, ◌∙◌, ℕ, List, [], ◌∷◌, ◌++◌, refl, sym, ap, subst}
use Rattle.std.proofs.Math.Seq.{append_snoc}
use Rattle.std.proofs.lemmas.List.{append-nil}
use Rattle.std.specs.Prelude.{Bool, true, false, Option, Some, None}
use Rattle.jiter.specs.Caller.{Items, Node, Nodes, Tree, is_null_tree, value_of, values_of}
use Rattle.jiter_walk.specs.Walk.{Outcome, gives, items_walked}
use Rattle.jiter_walk.specs.Values.{list_meaning, listed, nullable, or_null_in}
use Rattle.jiter_walk.specs.Shown.{and_then-gives, gives-same, given, nothing-some}

-- Each item is the one with its number in the list, and there are as many.
abbrev pub AreItems : {A : Type 0} (Is : Tree → A → Type 0) → Items → List A → Type 0
AreItems Is Items.no_items [] = Unit {0}
AreItems Is (Items.item v vs) (a ∷ xs) = Is v a × AreItems Is vs xs
AreItems Is Items.no_items (a ∷ xs) = ⊥
AreItems Is (Items.item v vs) [] = ⊥

-- an array of these items
abbrev pub IsListOf : {A : Type 0} (Is : Tree → A → Type 0) → Tree → List A → Type 0
IsListOf Is (Tree.array vs) xs = AreItems Is vs xs
IsListOf Is v xs = ⊥

module _ {C A : Type 0} (of : List ℕ → Node → Outcome C A) (Is : Tree → A → Type 0)
    (shows : (t : List ℕ) (n : Node) (a : A) → of t n ≡ gives a → Is (value_of t n) a) where
  items-show : (t : List ℕ) (ns : Nodes) (xs r : List A) → items_walked (listed of) t xs ns ≡ gives r
      → (ys : List A) × (r ≡ xs ++ ys) × AreItems Is (values_of t ns) ys
  items-show t Nodes.no_nodes xs r h = ([], sym (gives-same {C = C} xs r h) ∙ sym (append-nil xs), tt)
  items-show t (Nodes.node n ns) xs r h =
      let both = and_then-gives (listed of t n xs) (λ s. items_walked (listed of) t s ns) r h in
      let one = and_then-gives (of t n) (λ x. gives (xs ++ x ∷ [])) both.0 both.1 in
      let rest = items-show t ns both.0 r both.2 in (
        one.0 ∷ rest.0,
        rest.1 ∙ ap (λ s. s ++ rest.0) (sym (gives-same {C = C} (xs ++ one.0 ∷ []) both.0 one.2))
            ∙ append_snoc xs one.0 rest.0,
        (shows t n one.0 one.1, rest.2),
      )

  pub list-shows : (t : List ℕ) (n : Node) (xs : List A) → list_meaning of t n ≡ gives xs
      → IsListOf Is (value_of t n) xs
  list-shows t (Node.array b e ns) xs h =
      let all = items-show t ns [] xs h in
      subst (AreItems Is (values_of t ns)) (sym all.1) all.2
  list-shows t (Node.literal l b e) xs h = absurd (nothing-some xs (ap given h))
  list-shows t (Node.number b e) xs h = absurd (nothing-some xs (ap given h))
  list-shows t (Node.string ps b e) xs h = absurd (nothing-some xs (ap given h))
  list-shows t (Node.object b e ms) xs h = absurd (nothing-some xs (ap given h))

-- `null` and nothing, or a value
abbrev pub IsOrNull : {A : Type 0} (Is : Tree → A → Type 0) → Tree → Option A → Type 0
IsOrNull Is v None = is_null_tree v ≡ true
IsOrNull Is v (Some a) = Is v a

module _ {C A : Type 0} (of : List ℕ → Node → Outcome C A) (Is : Tree → A → Type 0)
    (shows : (t : List ℕ) (n : Node) (a : A) → of t n ≡ gives a → Is (value_of t n) a) where
  pub or_null-shows : (t : List ℕ) (n : Node) (x : Option A) → or_null_in of t n ≡ gives x
      → IsOrNull Is (value_of t n) x
  or_null-shows t n x h = by (is_null_tree (value_of t n)) refl h where
    by : (b : Bool) → is_null_tree (value_of t n) ≡ b → nullable b (of t n) ≡ gives x → IsOrNull Is (value_of t n) x
    by true is h = subst (IsOrNull Is (value_of t n)) (gives-same {C = C} None x h) is
    by false is h =
        let one = and_then-gives (of t n) (λ a. gives (Some a)) x h in
        subst (IsOrNull Is (value_of t n)) (gives-same {C = C} (Some one.0) x one.2) (shows t n one.0 one.1)
