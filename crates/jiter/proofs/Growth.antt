-- A longer prefix of a document goes on where a shorter one stopped.
use Rattle.jiter.proofs.Words.{◌≡◌, ℕ, ◌≤◌, Bool, List, length, take, ap, ◌∙◌, subst, arith, take-take, length-take, Ok}
use Rattle.jiter.proofs.Words.{Some, answer_in, Reading, done, fault, Tree, owned_text, owned_tree, reading_as}
use Rattle.jiter.proofs.Words.{view, Answers}
use Rattle.jiter_scan.specs.declared.partial_mode.PartialMode.{PartialMode}
use Rattle.jiter_steps.specs.Cut.{cut, IsBegunContainer}
use Rattle.jiter_steps.specs.Extends.{Extends, ExtendsItems, ExtendsMembers}
use Rattle.jiter_steps.specs.Tree.{Items, no_items, item, Members, no_members, member}
use Rattle.jiter_steps.specs.Tree as tree
use Rattle.jiter_steps.proofs.Cut.CutLaw.{AnswersCut, answer_in-cut}
use Rattle.jiter_steps.proofs.Cut.LaterCuts.{cut-extends}
use Rattle.jiter_value.specs.Owned.{owned_items, owned_members}
use Rattle.jiter_value.specs.declared.value.JsonValue.{JsonValue}
use Rattle.jiter.specs.Prefixes.{IsCleanCut, PrefixesGrow}

-- What is answered of a prefix is made of the document's cut there.
prefix-cut : (names : Bool) (u : List ℕ) (mode : PartialMode) (f : IsBegunContainer names u) (made : Tree → Tree)
    (x : Reading Tree) (v : JsonValue) → AnswersCut names u mode f x → Answers (Ok v) (reading_as made x)
    → (a : Tree) × (cut names f.text f.node f.place mode ≡ Some a) × (made a ≡ view v)
prefix-cut names u mode f made (done a e) v is h = let read = h.1 in (a, is, cc)
prefix-cut names u mode f made (fault k i stop) v is h = absurd is

-- the first bytes of a prefix are a prefix
shorter-prefix : (names : Bool) (u : List ℕ) (f : IsBegunContainer names u) (k : ℕ) → IsCleanCut f.node k
    → k ≤ f.place → IsBegunContainer names (take k u)
shorter-prefix names u f k clean le = record {
  text = f.text;
  node = f.node;
  place = k;
  document = f.document;
  container = f.container;
  begun = clean.begun;
  within = omega (arith, f.within);
  is = ap (take k) f.is ∙ take-take k f.place f.text le;
}

module _ (made : Tree → Tree) (more : (v w : Tree) → Extends v w → Extends (made v) (made w)) where
  pub prefixes-grow : PrefixesGrow made
  unfolding shorter-prefix
  prefixes-grow names mode u f k v w active clean within earlier later =
      let place : k ≤ f.place = omega (arith, ap length f.is, length-take f.place f.text, within, f.within) in
      let g = shorter-prefix names u f k clean place in
      let a = prefix-cut names (take k u) mode g made (answer_in names mode (take k u)) v
      (answer_in-cut names (take k u) mode g active) earlier in
      let b = prefix-cut names u mode f made (answer_in names mode u) w (answer_in-cut names u mode f active) later in
      let extends = cut-extends names f.text mode f.node k f.place a.0 b.0 f.document.spelled clean.numbers place
      a.1 b.1 in
      subst (Extends (view v)) b.2 (subst (λ x. Extends x (made b.0)) a.2 (more a.0 b.0 extends))

-- A tree whose texts are made owned goes on as it did.
mutual
  pub extends-owned : (v w : Tree) → Extends v w → Extends (owned_tree v) (owned_tree w)
  extends-owned tree.null w h = ap owned_tree h
  extends-owned (tree.boolean b) w h = ap owned_tree h
  extends-owned (tree.int z) w h = ap owned_tree h
  extends-owned (tree.big s) w h = ap owned_tree h
  extends-owned (tree.float s) w h = ap owned_tree h
  extends-owned (tree.string s) (tree.string t) h = (h.0, h.1, λ own. own)
  extends-owned (tree.array vs) (tree.array ws) h = items-owned vs ws h
  extends-owned (tree.object ms) (tree.object ns) h = members-owned ms ns h
  extends-owned v w h = absurd (cc)

  items-owned : (vs ws : Items) → ExtendsItems vs ws → ExtendsItems (owned_items vs) (owned_items ws)
  items-owned no_items ws h = tt
  items-owned (item v vs) no_items h = absurd h
  items-owned (item v no_items) (item w ws) h = extends-owned v w h
  items-owned (item v (item x vs)) (item w ws) h = (ap owned_tree h.0, items-owned (item x vs) ws h.1)

  members-owned : (ms ns : Members) → ExtendsMembers ms ns → ExtendsMembers (owned_members ms) (owned_members ns)
  members-owned no_members ns h = tt
  members-owned (member k v ms) no_members h = absurd h
  members-owned (member k v no_members) (member l w ns) h = (ap owned_text h.0, extends-owned v w h.1)
  members-owned (member k v (member m x ms)) (member l w ns) h =
      (ap owned_text h.0, ap owned_tree h.1, members-owned (member m x ms) ns h.2)
