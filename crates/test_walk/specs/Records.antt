-- Objects with each kind of field.
use Rattle.std.specs.Prelude.{ℕ, true, Option, List, [], ◌∷◌, codes, map, option_map, refl, string_bytes}
use Rattle.jiter_walk.specs.Meanings.{between, flag, integer_by, list, name_by, object, or_null, source, text}
use Rattle.jiter_walk.specs.Names.{named}
use Rattle.jiter_walk.specs.Table.{Field, Finals, Meaning, Slots, Table, defaulted, first, once, only, optional, required}
use Rattle.jiter_walk.specs.Table.{table}
use Rattle.jiter_walk.specs.Values.{bounded}
use Rattle.test_walk.specs.declared.records.Part.{Part}
use Rattle.test_walk.specs.declared.records.PartKey.{PartKey}
use Rattle.test_walk.specs.declared.records.PartKey.TheVariants as part_keys
use Rattle.test_walk.specs.declared.records.PartMembers.{PartMembers}
use Rattle.test_walk.specs.declared.records.Record.{Record}
use Rattle.test_walk.specs.declared.records.RecordKey.{RecordKey}
use Rattle.test_walk.specs.declared.records.RecordKey.TheVariants as key
use Rattle.test_walk.specs.declared.records.RecordMembers.{RecordMembers}
use Rattle.test_walk.specs.declared.state.State.{State}
use Rattle.test_walk.specs.declared.state.State.TheVariants as state
use Rattle.test_walk.specs.declared.unfit.Unfit.{Unfit}
use Rattle.test_walk.specs.declared.unfit.Unfit.TheVariants as cause

-- ---- a part
abbrev pub part_fields : List (Field Unfit)
part_fields =
    once cause.Repeated (required "name" text cause.NoName)
    ∷ optional "size" (between 1 9 cause.Range)
    ∷ []

abbrev pub part_key : PartKey → List ℕ
part_key part_keys.Name = codes "name"
part_key part_keys.Size = codes "size"

-- No other member may be there.
abbrev pub part_table : Table Unfit
part_table = only cause.Unknown part_fields

abbrev pub part : Meaning Unfit (Finals part_fields)
part = object part_table refl

abbrev pub part_slots : PartMembers → Slots part_fields
part_slots p = (option_map string_bytes p.name, (p.size, tt))

abbrev pub part_view : Part → Finals part_fields
part_view p = (string_bytes p.name, (p.size, tt))

-- ---- a record
abbrev pub states : List ℕ → Option State
states = named (("open", state.Open) ∷ ("closed", state.Closed) ∷ [])

abbrev pub fields : List (Field Unfit)
fields =
    first (required "id" (integer_by (bounded 0 255) cause.Range) cause.NoId)
    ∷ first (optional "note" text)
    ∷ first (defaulted "open" flag true)
    ∷ optional "main" (or_null part)
    ∷ defaulted "parts" (list (list part)) []
    ∷ optional "state" (name_by states cause.NoState)
    ∷ optional "raw" source
    ∷ []

abbrev pub record_key : RecordKey → List ℕ
record_key key.Id = codes "id"
record_key key.Note = codes "note"
record_key key.Open = codes "open"
record_key key.Main = codes "main"
record_key key.Parts = codes "parts"
record_key key.State = codes "state"
record_key key.Raw = codes "raw"

abbrev pub whole : Meaning Unfit (Finals fields)
whole = object (table fields) refl

abbrev pub parts_view : List Part → List (Finals part_fields)
parts_view parts = map part_view parts

abbrev pub record_slots : RecordMembers → Slots fields
record_slots r = (
  r.id,
  (
    option_map string_bytes r.note,
    (
      r.open,
      (
        option_map (λ main. option_map part_view main) r.main,
        (
          option_map (λ parts. map (λ inner. parts_view inner.items) parts.items) r.parts,
          (r.state, (option_map (λ raw. raw.now) r.raw, tt)),
        ),
      ),
    ),
  ),
)

abbrev pub record_view : Record → Finals fields
record_view r = (
  r.id,
  (
    option_map string_bytes r.note,
    (
      r.open,
      (
        option_map (λ main. option_map part_view main) r.main,
        (map (λ inner. parts_view inner.items) r.parts.items, (r.state, (option_map (λ raw. raw.now) r.raw, tt))),
      ),
    ),
  ),
)
