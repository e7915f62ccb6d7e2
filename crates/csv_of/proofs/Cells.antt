-- A row, one cell after the other.
use Rattle.std.proofs.Common.{◌≡◌, ◌∙◌, ◌<◌, ◌+◌, ap, arith, drop, length, refl, sym, ℕ, Bool, List, [], ◌∷◌, ◌++◌}
use Rattle.std.specs.Prelude.{None, Option, Some, codes, option_map}
use Rattle.std.proofs.Math.ListN.{get_or}
use Rattle.std.proofs.lemmas.List.{drop_all, drop_more}
use Rattle.jiter.specs.Caller.{Tree}
use Rattle.json_lines.specs.Line.{Seen, written}
use Rattle.csv_of.specs.Row.{cell_of, names_after, no_cell, quoted, row_after, with_cell}
use Rattle.csv_of.specs.declared.columns.Column.{Column}

-- the text in an option
abbrev get_some : List ℕ → Option (List ℕ) → List ℕ
get_some d None = d
get_some d (Some x) = x

-- the row goes on after a cell
pub with-cell : (column : Column) (cell : Option (List ℕ)) (old new : List ℕ) (go : List ℕ → Seen)
    → Some new ≡ option_map (λ c. old ++ c) cell → go new ≡ with_cell column cell (λ c. go (old ++ c))
with-cell column None old new go is = absurd (cc)
with-cell column (Some cell) old new go is = ap (λ o. go (get_some new o)) is

-- and the line is refused without one
pub without-cell : (column : Column) (cell : Option (List ℕ)) (old : List ℕ) (go : List ℕ → Seen)
    → None ≡ option_map (λ c. old ++ c) cell → no_cell column.name.now ≡ with_cell column cell go
without-cell column None old go is = refl
without-cell column (Some cell) old go is = absurd (cc)

module _ (separator : ℕ) (columns : List Column) (i : ℕ) (column : Column) (within : i < length columns)
    (here : column ≡ get_or columns i column) where
  others : drop i columns ≡ column ∷ drop (i + 1) columns
  others = drop_more columns i column within ∙ ap (λ c. c ∷ drop (i + 1) columns) (sym here)

  -- the next column has a cell
  pub cell-more : (nested : Bool) (v : Tree) (text pushed text' : List ℕ) → pushed ≡ text ++ separator ∷ []
      → Some text' ≡ option_map (λ cell. pushed ++ cell) (cell_of nested column v)
      → row_after nested separator (drop (i + 1) columns) v text' ≡ row_after nested separator (drop i columns) v text
  cell-more nested v text pushed text' is has =
      with-cell column (cell_of nested column v) pushed text' (row_after nested separator (drop (i + 1) columns) v) has
      ∙ ap (λ p. with_cell column (cell_of nested column v) (λ c. row_after nested separator (drop (i + 1) columns) v (p ++ c))) is
      ∙ sym (ap (λ c. row_after nested separator c v text) others)

  -- it has none
  pub cell-missing : (nested : Bool) (v : Tree) (text pushed : List ℕ)
      → None ≡ option_map (λ cell. pushed ++ cell) (cell_of nested column v)
      → no_cell column.name.now ≡ row_after nested separator (drop i columns) v text
  cell-missing nested v text pushed none =
      without-cell column (cell_of nested column v) pushed _ none
      ∙ sym (ap (λ c. row_after nested separator c v text) others)

  -- the next name
  pub name-more : (text text' : List ℕ) → text' ≡ (text ++ separator ∷ []) ++ quoted column.name.now
      → names_after separator (drop (i + 1) columns) text' ≡ names_after separator (drop i columns) text
  name-more text text' is =
      ap (names_after separator (drop (i + 1) columns)) is ∙ sym (ap (λ c. names_after separator c text) others)

-- after the last column
pub row-ends : (separator : ℕ) (columns : List Column) (i : ℕ) (nested : Bool) (v : Tree) (text text' : List ℕ) → length columns ≡ i
    → text' ≡ text ++ codes "\r\n" → written text' ≡ row_after nested separator (drop i columns) v text
row-ends separator columns i nested v text text' all is =
    ap written is ∙ ap (λ c. row_after nested separator c v text) (sym (drop_all i columns (omega (arith, all))))

pub names-end : (separator : ℕ) (columns : List Column) (i : ℕ) (text text' : List ℕ) → length columns ≡ i
    → text' ≡ text ++ codes "\r\n" → text' ≡ names_after separator (drop i columns) text
names-end separator columns i text text' all is =
    is ∙ ap (λ c. names_after separator c text) (sym (drop_all i columns (omega (arith, all))))
