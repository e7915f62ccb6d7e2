-- What C is told of a document after a handle, and of what lies in it.
use Rattle.std.specs.Prelude.{◌≡◌, ◌⊎◌, ℕ, pos, zero, suc, Bool, true, false, not, if◌then◌else◌, List, [], ◌∷◌, length}
use Rattle.std.specs.Prelude.{Float, Option, Some, None, option_map, option_and_then, Result, Ok, Err, Vec}
use Rattle.std.specs.Float.{binary64}
use Rattle.std.specs.Float.Ieee.{of_int}
use Rattle.std.specs.Str.{is_utf8}
use Rattle.std.specs.declared.alloc.Global.{Global}
use Rattle.fast_float.specs.Parse.{parse_float}
use Rattle.jiter.specs.Cause.{json_error}
use Rattle.jiter_print.specs.Print.{print_of}
use Rattle.jiter_scan.specs.Kind.{Kind, out_of_memory}
use Rattle.jiter_scan.specs.declared.partial_mode.PartialMode.{PartialMode}
use Rattle.jiter_steps.specs.Answer.{answer_in}
use Rattle.jiter_steps.specs.Read.{Reading, done, fault}
use Rattle.jiter_steps.specs.Tree.{Text, Tree, null, boolean, int, big, float, string, array, object}
use Rattle.jiter_steps.specs.Tree.{Items, no_items, item, Members, no_members, member}
use Rattle.jiter_steps.specs.Unique.{unique_answer_in}
use Rattle.jiter_value.specs.Access.{item_of}
use Rattle.jiter_value.specs.Owned.{ReadHolds, owned_tree}
use Rattle.jiter_value.specs.Pointer.{pointed_by}
use Rattle.jiter_value.specs.Value.{MayGrow}
use Rattle.jiter_c.specs.Documents.{RunsOut}
use Rattle.jiter_c.specs.Faults.{fault_of}
use Rattle.jiter_c.specs.Holding.{HoldsDocument}
use Rattle.jiter_c.specs.Printing.{WritesText, error_if}
use Rattle.jiter_c.specs.declared.faults.JiterFault.{JiterFault}
use Rattle.jiter_c.specs.declared.handles.Contents.{Contents}
use Rattle.jiter_c.specs.declared.document_texts.Wanted.{Wanted}
use Rattle.jiter_c.specs.declared.document_texts.Wanted.TheVariants as wanted
use Rattle.jiter_c.specs.declared.values.JiterValue.{JiterValue}

-- the error of a place that leads to nothing, or to another type
abbrev pub absent_number : ℕ
absent_number = 102

abbrev pub absent : JiterFault
absent = record { kind = absent_number; expected = 0; actual = 0; index = 0 }

-- the reading of a document, with or without repeated keys
abbrev pub document_reading : Bool → Bool → PartialMode → List ℕ → Reading Tree
document_reading unique names mode t = if unique then unique_answer_in names mode t else answer_in names mode t

-- what a handle holds after such a kind: a repeated key, as a string, or nothing
abbrev pub HoldsKey : Kind → Contents → Type 0
HoldsKey (Kind.duplicate_key key) contents =
    HoldsDocument contents (λ w. w ≡ string (record { owned = true; bytes = key }))
HoldsKey k contents = contents ≡ Contents.Nothing

-- An error for this kind at this index.
abbrev pub Refuses : Kind → ℕ → Contents → Option JiterFault → Type 0
Refuses k i contents None = ⊥
Refuses k i contents (Some f) = (f ≡ fault_of (json_error k) i) × HoldsKey k contents

-- An owned value runs out of memory only if it may grow, or was read with a borrowed string or a part.
abbrev pub OwnedRunsOut : List ℕ → Reading Tree → JiterFault → Type 0
OwnedRunsOut t reading f = RunsOut (MayGrow t ⊎ ReadHolds reading) t f

-- What a reading of the bytes t puts into a handle: the value, owned, or nothing, or the repeated key; and why it failed.
abbrev pub Reads : List ℕ → Reading Tree → Contents → Option JiterFault → Type 0
Reads t (done v e) contents None = HoldsDocument contents (λ w. w ≡ owned_tree v)
Reads t (done v e) contents (Some f) = OwnedRunsOut t (done v e) f × (contents ≡ Contents.Nothing)
Reads t (fault k i stop) contents None = ⊥
Reads t (fault k i stop) contents (Some f) =
    ((f ≡ fault_of (json_error k) i) × HoldsKey k contents)
    ⊎ (OwnedRunsOut t (fault k i stop) f × (contents ≡ Contents.Nothing))

-- The same, as a call reports it.
abbrev pub ReportsDocument : List ℕ → Reading Tree → Contents → Bool → JiterFault → JiterFault → Type 0
ReportsDocument t reading contents given before later =
    Reads t reading contents (error_if (not given) later) × (given ≡ true → later ≡ before)

-- the member with this index
abbrev pub member_at : ℕ → Members → Option (Text × Tree)
member_at i no_members = None
member_at zero (member k v ms) = Some (k, v)
member_at (suc i) (member k v ms) = member_at i ms

-- the item, or the value of the member, with this index
abbrev pub part_at : ℕ → Tree → Option Tree
part_at i (array is) = item_of i is
part_at i (object ms) = option_map (λ m. m.1) (member_at i ms)
part_at i v = None

-- from a value on, one part for each step
abbrev pub stepped : List ℕ → Tree → Option Tree
stepped [] v = Some v
stepped (step ∷ steps) v = option_and_then (stepped steps) (part_at step v)

-- What a JSON Pointer and the steps after it lead to; a pointer that is not UTF-8 leads nowhere.
abbrev pub placed : List ℕ → List ℕ → Tree → Option Tree
placed pointer steps v =
    if is_utf8 pointer then option_and_then (stepped steps) (pointed_by pointer v) else None

-- how many items and members there are
abbrev pub count_items : Items → ℕ
count_items no_items = zero
count_items (item v is) = suc (count_items is)

abbrev pub count_members : Members → ℕ
count_members no_members = zero
count_members (member k v ms) = suc (count_members ms)

-- a value of this type and length
abbrev pub typed_value : ℕ → ℕ → JiterValue
typed_value kind n = record { kind = kind; truth = false; integer = pos 0; length = n }

-- what is reported of a value
abbrev pub value_report : Tree → JiterValue
value_report null = typed_value 1 0
value_report (boolean b) = record { kind = 2; truth = b; integer = pos 0; length = 0 }
value_report (int z) = record { kind = 3; truth = false; integer = z; length = 0 }
value_report (big s) = typed_value 9 (length s.bytes)
value_report (float s) = typed_value 4 (length s.bytes)
value_report (string s) = typed_value 5 (length s.bytes)
value_report (array is) = typed_value 6 (count_items is)
value_report (object ms) = typed_value 7 (count_members ms)

-- the text of a string, or of a number that is kept by it
abbrev pub text_in : Tree → Option (List ℕ)
text_in (big s) = Some s.bytes
text_in (float s) = Some s.bytes
text_in (string s) = Some s.bytes
text_in v = None

-- the key of the member with this index
abbrev pub key_of : ℕ → Tree → Option (List ℕ)
key_of i (object ms) = option_map (λ m. m.0.bytes) (member_at i ms)
key_of i v = None

-- the double nearest to a number
abbrev pub double_in : Tree → Option Float
double_in (int z) = Some (of_int binary64 z)
double_in (big s) = parse_float binary64 s.bytes
double_in (float s) = parse_float binary64 s.bytes
double_in v = None

-- the text that is wanted of a value
abbrev pub wanted_text : Wanted → Tree → Option (List ℕ)
wanted_text wanted.String v = text_in v
wanted_text (wanted.Key i) v = key_of i v
wanted_text wanted.Json v = Some (print_of v)

-- A copy of a text, if there is one and memory for it.
abbrev pub Copies : Option (List ℕ) → Result (Vec ℕ Global) JiterFault → Type 0
Copies (Some bytes) (Ok text) = text.items ≡ bytes
Copies (Some bytes) (Err f) = f ≡ fault_of (json_error out_of_memory) 0
Copies None (Ok text) = ⊥
Copies None (Err f) = f ≡ absent

-- The same, as a call writes it.
abbrev pub ReportsCopy : Option (List ℕ) → Bool → List ℕ → List ℕ → ℕ → ℕ → JiterFault → JiterFault → Type 0
ReportsCopy bytes given out later whole count before error =
    (text : Result (Vec ℕ Global) JiterFault) × Copies bytes text
    × WritesText text given out later whole count before error
