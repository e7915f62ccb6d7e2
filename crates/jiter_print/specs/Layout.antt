-- The text of a value, compact or with each part of a container on a line of its own.
use Rattle.std.specs.Prelude.{ℕ, zero, suc, ◌+◌, Bool, true, false, List, [], ◌∷◌, ◌++◌, length, replicate}
use Rattle.std.specs.List.{join_with_byte}
use Rattle.jiter_steps.specs.Tree.{Tree, array, object, Items, no_items, item}
use Rattle.jiter_steps.specs.Tree.{Members, no_members, member}
use Rattle.jiter_print.specs.Print.{print_of, print_text}

-- how a container is laid out: compact, or over lines, where each level adds so many spaces and this one has so many
pub data Layout : Type 0 where
  compact : Layout
  pretty : ℕ → ℕ → Layout

-- the layout of what is inside
abbrev pub deeper : Layout → Layout
deeper compact = compact
deeper (pretty indent margin) = pretty indent (margin + indent)

-- a line feed and the spaces of the level
abbrev pub line_break : Layout → List ℕ
line_break compact = []
line_break (pretty indent margin) = 10 ∷ replicate margin 32

-- what follows a colon
abbrev pub space : Layout → List ℕ
space compact = []
space (pretty indent margin) = 32 ∷ []

-- the closing bracket has a line of its own after one or more parts
abbrev pub last_break : Layout → ℕ → List ℕ
last_break layout zero = []
last_break layout (suc n) = line_break layout

-- the parts with a comma between them, up to the closing bracket
abbrev pub joined : Layout → List (List ℕ) → List ℕ
joined layout ps = join_with_byte 44 ps ++ last_break layout (length ps)

abbrev mutual
  pub laid_out : Layout → Tree → List ℕ
  laid_out layout (array js) = 91 ∷ joined layout (items_laid_out (deeper layout) js) ++ 93 ∷ []
  laid_out layout (object ms) = 123 ∷ joined layout (members_laid_out (deeper layout) ms) ++ 125 ∷ []
  laid_out layout v = print_of v

  pub items_laid_out : Layout → Items → List (List ℕ)
  items_laid_out layout no_items = []
  items_laid_out layout (item j js) = (line_break layout ++ laid_out layout j) ∷ items_laid_out layout js

  pub members_laid_out : Layout → Members → List (List ℕ)
  members_laid_out layout no_members = []
  members_laid_out layout (member k j ms) =
      (line_break layout ++ (print_text k.bytes ++ 58 ∷ (space layout ++ laid_out layout j))) ∷ members_laid_out layout ms

-- the text over lines, where each level adds so many spaces
abbrev pub pretty_of : ℕ → Tree → List ℕ
pretty_of indent v = laid_out (pretty indent 0) v

-- the layout that the code names by these numbers
abbrev pub layout_of : Bool → ℕ → ℕ → Layout
layout_of false indent margin = compact
layout_of true indent margin = pretty indent margin
