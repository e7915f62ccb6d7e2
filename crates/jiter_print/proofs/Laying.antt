-- What each layout writes between the tokens is whitespace, and the compact one writes nothing. None says where a
-- value's texts lie.
use Rattle.std.proofs.Common.{◌≡◌, inl, inr, ℕ, zero, suc, List, [], ◌∷◌, ◌++◌, refl, sym, ap, ap₂, ◌∙◌, replicate}
use Rattle.std.specs.List.{join_with_byte}
use Rattle.std.proofs.lemmas.List.{append-nil}
use Rattle.jiter_steps.specs.Tree.{Tree, null, boolean, int, big, float, string, array, object, Items, no_items, item}
use Rattle.jiter_steps.specs.Tree.{Members, no_members, member}
use Rattle.jiter_value.specs.Owned.{owned_text, owned_tree, owned_items, owned_members, HoldSame}
use Rattle.jiter_print.specs.Layout.{Layout, compact, pretty, deeper, line_break, space, last_break, joined, laid_out}
use Rattle.jiter_print.specs.Layout.{items_laid_out, members_laid_out}
use Rattle.jiter_print.specs.Print.{print_of, print_text, item_prints, member_prints}
use Rattle.jiter_print.proofs.PrintLawParts.{AreBlank}

spaces-blank : (n : ℕ) → AreBlank (replicate n 32)
spaces-blank zero = tt
spaces-blank (suc n) = (inl refl, spaces-blank n)

pub line_break-blank : (layout : Layout) → AreBlank (line_break layout)
line_break-blank compact = tt
line_break-blank (pretty indent margin) = (inr (inr (inl refl)), spaces-blank margin)

pub space-blank : (layout : Layout) → AreBlank (space layout)
space-blank compact = tt
space-blank (pretty indent margin) = (inl refl, tt)

pub last_break-blank : (layout : Layout) (parts : ℕ) → AreBlank (last_break layout parts)
last_break-blank layout zero = tt
last_break-blank layout (suc n) = line_break-blank layout

-- ---- the compact layout
no_last-break : (parts : ℕ) → last_break compact parts ≡ []
no_last-break zero = refl
no_last-break (suc n) = refl

joined-compact : (ps qs : List (List ℕ)) (n opening closer : ℕ) → ps ≡ qs
    → opening ∷ (join_with_byte 44 ps ++ last_break compact n) ++ closer ∷ []
    ≡ opening ∷ join_with_byte 44 qs ++ closer ∷ []
joined-compact ps qs n opening closer same =
    ap₂ (λ rs l. opening ∷ (join_with_byte 44 rs ++ l) ++ closer ∷ []) same (no_last-break n)
    ∙ ap (λ w. opening ∷ w ++ closer ∷ []) (append-nil (join_with_byte 44 qs))

mutual
  -- It is the compact text.
  pub compact-is : (v : Tree) → laid_out compact v ≡ print_of v
  compact-is null = refl
  compact-is (boolean b) = refl
  compact-is (int z) = refl
  compact-is (big s) = refl
  compact-is (float s) = refl
  compact-is (string s) = refl
  compact-is (array js) = joined-compact _ _ _ 91 93 (items-compact js)
  compact-is (object ms) = joined-compact _ _ _ 123 125 (members-compact ms)

  items-compact : (js : Items) → items_laid_out compact js ≡ item_prints js
  items-compact no_items = refl
  items-compact (item j js) = ap₂ (λ (p : List ℕ) ps. p ∷ ps) (compact-is j) (items-compact js)

  members-compact : (ms : Members) → members_laid_out compact ms ≡ member_prints ms
  members-compact no_members = refl
  members-compact (member k j ms) =
      ap₂ (λ (p : List ℕ) ps. (print_text k.bytes ++ 58 ∷ p) ∷ ps) (compact-is j) (members-compact ms)

-- ---- where the texts lie
mutual
  laid-owned : (layout : Layout) (v : Tree) → laid_out layout (owned_tree v) ≡ laid_out layout v
  laid-owned layout null = refl
  laid-owned layout (boolean b) = refl
  laid-owned layout (int z) = refl
  laid-owned layout (big s) = refl
  laid-owned layout (float s) = refl
  laid-owned layout (string s) = refl
  laid-owned layout (array js) = ap (λ ps. 91 ∷ joined layout ps ++ 93 ∷ []) (items-owned (deeper layout) js)
  laid-owned layout (object ms) = ap (λ ps. 123 ∷ joined layout ps ++ 125 ∷ []) (members-owned (deeper layout) ms)

  items-owned : (layout : Layout) (js : Items) → items_laid_out layout (owned_items js) ≡ items_laid_out layout js
  items-owned layout no_items = refl
  items-owned layout (item j js) =
      ap₂ (λ (p : List ℕ) ps. (line_break layout ++ p) ∷ ps) (laid-owned layout j) (items-owned layout js)

  members-owned : (layout : Layout) (ms : Members)
      → members_laid_out layout (owned_members ms) ≡ members_laid_out layout ms
  members-owned layout no_members = refl
  members-owned layout (member k j ms) =
      ap₂ (λ (p : List ℕ) ps. (line_break layout ++ (print_text k.bytes ++ 58 ∷ (space layout ++ p))) ∷ ps)
      (laid-owned layout j) (members-owned layout ms)

-- Values that hold the same have the same text.
pub same-laid : (layout : Layout) (v w : Tree) → HoldSame v w → laid_out layout v ≡ laid_out layout w
same-laid layout v w same = sym (laid-owned layout v) ∙ ap (laid_out layout) same ∙ laid-owned layout w

mutual
  -- A value holds the same as the one with each text owned: as an owned value, a copy, or what came in chunks.
  pub holds-owned : (v : Tree) → HoldSame v (owned_tree v)
  holds-owned null = refl
  holds-owned (boolean b) = refl
  holds-owned (int z) = refl
  holds-owned (big s) = refl
  holds-owned (float s) = refl
  holds-owned (string s) = refl
  holds-owned (array js) = ap array (items-hold js)
  holds-owned (object ms) = ap object (members-hold ms)

  items-hold : (js : Items) → owned_items js ≡ owned_items (owned_items js)
  items-hold no_items = refl
  items-hold (item j js) = ap₂ item (holds-owned j) (items-hold js)

  members-hold : (ms : Members) → owned_members ms ≡ owned_members (owned_members ms)
  members-hold no_members = refl
  members-hold (member k j ms) = ap₂ (member (owned_text k)) (holds-owned j) (members-hold ms)
