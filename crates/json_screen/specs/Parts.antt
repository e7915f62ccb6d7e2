-- Which bytes of an input are the document.
use Rattle.std.specs.Prelude.{◌≡◌, ℕ, ◌+◌, ◌-◌, ◌^◌, ◌==◌, ◌||◌, Bool, List, [], ◌∷◌, ◌++◌, if◌then◌else◌, min, nat_lt, not}
use Rattle.std.specs.List.{fold}
use Rattle.json_screen.specs.declared.input.Span.{Span}
use Rattle.json_screen.specs.declared.input.Input.{Input}
use Rattle.json_screen.specs.declared.input.Place.{Place}
use Rattle.json_screen.specs.declared.input.Place.TheVariants.{Before, Between, Quoted, Escaped, After}

abbrev pub is_open : ℕ → Bool
is_open b = b == 91 || b == 123

abbrev pub is_close : ℕ → Bool
is_close b = b == 93 || b == 125

abbrev pub at : Place → ℕ → Span
at place depth = record { place = place; depth = depth }

-- the document begins at the first `[` or `{`
abbrev pub after_before : ℕ → ℕ → Span
after_before depth b = if is_open b then at Between 1 else at Before depth

-- and ends at the bracket after which none is open
abbrev pub after_between : ℕ → ℕ → Span
after_between depth b =
    if b == 34 then at Quoted depth
    else (if is_open b then at Between (min (depth + 1) (2 ^ 64 - 1))
    else (if not (is_close b) then at Between depth
    else (if nat_lt 1 depth then at Between (depth - 1) else at After 0)))

-- brackets in strings don't count
abbrev pub after_quoted : ℕ → ℕ → Span
after_quoted depth b = if b == 34 then at Between depth else (if b == 92 then at Escaped depth else at Quoted depth)

abbrev pub step_by : Place → ℕ → ℕ → Span
step_by Before depth b = after_before depth b
step_by Between depth b = after_between depth b
step_by Quoted depth b = after_quoted depth b
step_by Escaped depth b = at Quoted depth
step_by After depth b = at After depth

abbrev pub step : Span → ℕ → Span
step e b = step_by e.place e.depth b

-- the place of the next byte, the document, and the text around it
pub record Parts : Type 0 where
  pub span : Span
  pub before : List ℕ
  pub inside : List ℕ
  pub after : List ℕ

abbrev pub with_before : Parts → Span → ℕ → Parts
with_before p e b = record { span = e; before = p.before ++ b ∷ []; inside = p.inside; after = p.after }

abbrev pub with_inside : Parts → Span → ℕ → Parts
with_inside p e b = record { span = e; before = p.before; inside = p.inside ++ b ∷ []; after = p.after }

abbrev pub with_after : Parts → Span → ℕ → Parts
with_after p e b = record { span = e; before = p.before; inside = p.inside; after = p.after ++ b ∷ [] }

-- A byte is before the document if it doesn't begin it, and after it if the document had ended.
abbrev pub part_by : Place → Place → Parts → Span → ℕ → Parts
part_by Before Before p e b = with_before p e b
part_by After new p e b = with_after p e b
part_by old new p e b = with_inside p e b

abbrev pub part_step : Parts → ℕ → Parts
part_step p b = part_by p.span.place (step p.span b).place p (step p.span b) b

abbrev pub no_parts : Parts
no_parts = record { span = at Before 0; before = []; inside = []; after = [] }

-- all bytes
abbrev pub whole : Parts → List ℕ
whole p = (p.before ++ p.inside) ++ p.after

abbrev pub parts_of : List ℕ → Parts
parts_of t = fold part_step no_parts t

abbrev pub inside_of : List ℕ → List ℕ
inside_of t = (parts_of t).inside

abbrev pub parts : Input → Parts
parts i = record { span = i.span; before = i.before.items; inside = i.inside.items; after = i.after.items }

-- more bytes after these
abbrev pub Grows : List ℕ → List ℕ → Type 0
Grows old new = (more : List ℕ) × (new ≡ old ++ more)
