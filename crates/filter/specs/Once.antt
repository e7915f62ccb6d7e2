-- What is read of a line once, for all members. Only private functions say so; what becomes of a line is in Line.antt.
use Rattle.std.specs.Prelude.{◌≡◌, ◌<◌, ℕ, Bool, List, [], ◌∷◌, false, Option, None, Result, Ok, Err, get_or, length}
use Rattle.std.specs.Prelude.{option_map, string_bytes}
use Rattle.std.specs.Borrow.{Bor}
use Rattle.std.specs.List.{list_any}
use Rattle.std.specs.Str.{bytes_eq}
use Rattle.jiter.specs.Caller.{IsMemory, JsonValue, answer, at_start, cause_of, done, view}
use Rattle.jiter.specs.declared.errors.JiterError.{JiterError}
use Rattle.json_lines.specs.Line.{Seen, refused, written}
use Rattle.filter.specs.Members.{Fails, Finds, with_value}
use Rattle.filter.specs.declared.line.Part.{Part}
use Rattle.filter.specs.declared.pointers.Member.{Member}

-- the source of a value, if one was found
abbrev pub found_view : Option (Bor (List ℕ)) → Option (List ℕ)
found_view = option_map (λ x. x.now)

-- what a walk for one member returns, unless memory ran out
abbrev pub ReadsOne : List ℕ → List ℕ → Result (Option (Bor (List ℕ))) JiterError → Type 0
ReadsOne name line (Ok found) = Finds name line (found_view found)
ReadsOne name line (Err x) =
    (IsMemory x → ⊥) → (stop : ℕ) × Fails name (at_start line) (cause_of x.error_type) x.index stop

-- ---- the walk for all members
-- the name of the member at k
abbrev pub name_at : List Member → ℕ → Member → List ℕ
name_at members k m = string_bytes (get_or members k m).name

-- the source that was found for it
abbrev pub found_at : List (Option (Bor (List ℕ))) → ℕ → Option (List ℕ)
found_at sources k = found_view (get_or sources k None)

-- whether a key is one of the names
abbrev pub is_wanted : List ℕ → List Member → Bool
is_wanted key = list_any (λ m. bytes_eq key (string_bytes m.name))

-- after a value with this key and this source
abbrev pub Keeps : List Member → List ℕ → List ℕ → List (Option (Bor (List ℕ))) → List (Option (Bor (List ℕ))) → Type 0
Keeps members key source old new = (k : ℕ) (m : Member) → k < length members
    → found_at new k ≡ with_value (bytes_eq key (name_at members k m)) source (found_at old k)

-- each member has the source that a walk of its own finds
abbrev pub FoundAll : List Member → List ℕ → List (Option (Bor (List ℕ))) → Type 0
FoundAll members line sources =
    (k : ℕ) (m : Member) → k < length members → Finds (name_at members k m) line (found_at sources k)

-- What a walk for all of them returns: that; or an error, which is that of a walk of its own if there is one member.
abbrev pub ReadsAll : List Member → List ℕ → List (Option (Bor (List ℕ))) → Result (Unit {0}) JiterError → Type 0
ReadsAll members line sources (Ok u) = FoundAll members line sources
ReadsAll members line sources (Err x) = (m : Member) → members ≡ m ∷ [] → ReadsOne (string_bytes m.name) line (Err x)

-- ---- what a line becomes of that
-- what a part of the code stands for
abbrev pub seen_part : Part → Seen
seen_part (Part.Source source) = written source.now
seen_part (Part.Text text) = written text.items
seen_part (Part.Refused column cause) = refused column (string_bytes cause)

-- the value that is read of the whole line
abbrev pub IsValueOf : List ℕ → JsonValue → Type 0
IsValueOf line v = (e : ℕ) × (answer false line ≡ done (view v) e)

-- the sources that one walk found for all members
abbrev pub AreSources : List Member → List ℕ → List (Option (Bor (List ℕ))) → Type 0
AreSources members line sources = (length sources ≡ length members) × FoundAll members line sources
