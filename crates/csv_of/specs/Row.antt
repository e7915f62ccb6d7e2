-- The CSV row of a line (RFC 4180): a cell for each column. A value that is missing is an empty cell, and so is `null`. A
-- number, `true` and `false` are their compact text, and a string its decoded text between quotes.
use Rattle.std.specs.Prelude.{◌≡◌, ℕ, ◌+◌, Bool, if◌then◌else◌, nat_eq, is_some, List, [], ◌∷◌, ◌++◌, false, flat_map}
use Rattle.std.specs.Prelude.{Option, Some, None, codes, option_map, replicate}
use Rattle.jiter.specs.Caller.{Reading, Tree, done, fault, kind_text, member_named, members_in, pointed_by, unique_answer}
use Rattle.jiter_print.specs.Print.{print_of}
use Rattle.json_lines.specs.Line.{Seen, refused, written}
use Rattle.csv_of.specs.declared.columns.Column.{Column}
use Rattle.csv_of.specs.declared.columns.Columns.{Columns}

-- a quote is written twice
abbrev pub copies : ℕ → ℕ
copies b = if nat_eq b 34 then 2 else 1

-- between quotes (RFC 4180, 2)
abbrev pub quoted : List ℕ → List ℕ
quoted bs = 34 ∷ flat_map (λ b. replicate (copies b) b) bs ++ 34 ∷ []

-- the cell of an array or an object, if these have cells
abbrev pub nested_cell : Bool → Tree → Option (List ℕ)
nested_cell nested v = if nested then Some (quoted (print_of v)) else None

-- the cell of a value, if it has one
abbrev pub cell_in : Bool → Tree → Option (List ℕ)
cell_in nested Tree.null = Some []
cell_in nested (Tree.boolean b) = Some (print_of (Tree.boolean b))
cell_in nested (Tree.int z) = Some (print_of (Tree.int z))
cell_in nested (Tree.big s) = Some (print_of (Tree.big s))
cell_in nested (Tree.float s) = Some (print_of (Tree.float s))
cell_in nested (Tree.string s) = Some (quoted s.bytes)
cell_in nested (Tree.array is) = nested_cell nested (Tree.array is)
cell_in nested (Tree.object ms) = nested_cell nested (Tree.object ms)

-- a value that is missing counts as `null`
abbrev pub or_null : Option Tree → Tree
or_null None = Tree.null
or_null (Some v) = v

-- what a column shows of an object: the member of its name, or what its pointer leads to
abbrev pub shown_by : Option (List ℕ) → List ℕ → Tree → Option Tree
shown_by None name v = member_named name v
shown_by (Some pointer) name v = pointed_by pointer v

abbrev pub cell_of : Bool → Column → Tree → Option (List ℕ)
cell_of nested column v =
    cell_in nested (or_null (shown_by (option_map (λ p. p.now) column.pointer) column.name.now v))

-- the cause if a column's value has no cell
abbrev pub no_cell : List ℕ → Seen
no_cell name = refused 1 (codes "the value of " ++ (name ++ codes " is an array or an object"))

-- with a cell the row goes on; without one the line is refused
abbrev pub with_cell : Column → Option (List ℕ) → (List ℕ → Seen) → Seen
with_cell column None row = no_cell column.name.now
with_cell column (Some cell) row = row cell

-- The row after the cells in this text: the separator before each further cell, CR LF at the end (RFC 4180, 2, where the
-- separator is a comma).
abbrev pub row_after : Bool → ℕ → List Column → Tree → List ℕ → Seen
row_after nested separator [] v text = written (text ++ codes "\r\n")
row_after nested separator (column ∷ more) v text =
    with_cell column (cell_of nested column v)
    (λ cell. row_after nested separator more v ((text ++ separator ∷ []) ++ cell))

abbrev pub row_of : Columns → Tree → Seen
row_of columns v =
    with_cell columns.first (cell_of columns.nested columns.first v)
    (λ cell. row_after columns.nested columns.separator columns.others.items v cell)

-- what a document of this value becomes
abbrev pub outcome_of : Columns → Tree → Seen
outcome_of columns v = if is_some (members_in v) then row_of columns v else refused 1 (codes "not an object")

-- what a line becomes, by what is read of it
abbrev pub outcome_in : Columns → Reading Tree → Seen
outcome_in columns (done v end) = outcome_of columns v
outcome_in columns (fault kind index stop) = refused (index + 1) (kind_text kind)

-- what becomes of a line
abbrev pub Becomes : Columns → List ℕ → Seen → Type 0
Becomes columns line o = o ≡ outcome_in columns (unique_answer false line)

-- the row of the columns' names
abbrev pub names_after : ℕ → List Column → List ℕ → List ℕ
names_after separator [] text = text ++ codes "\r\n"
names_after separator (column ∷ more) text =
    names_after separator more ((text ++ separator ∷ []) ++ quoted column.name.now)

abbrev pub header_of : Columns → List ℕ
header_of columns = names_after columns.separator columns.others.items (quoted columns.first.name.now)

-- what the code returns: the row with the cell, if there is a cell
abbrev pub row_if : Bool → List ℕ → Option (List ℕ)
row_if has row = if has then Some row else None
