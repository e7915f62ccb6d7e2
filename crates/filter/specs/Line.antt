-- What becomes of a line.
use Rattle.std.specs.Prelude.{◌≡◌, ℕ, ◌+◌, List, [], ◌∷◌, ◌++◌, false, Option, Some, None, codes, option_map, string_bytes}
use Rattle.jiter.specs.Caller.{Cause, IsDocument, Node, NodeMembers, Reading, Tree, answer, at_start, begin, cause_text}
use Rattle.jiter.specs.Caller.{done, fault, kind_text, pointed_by, value_of}
use Rattle.jiter_print.specs.Print.{print_of}
use Rattle.json_lines.specs.Line.{Seen, refused, written}
use Rattle.filter.specs.Members.{Fails, Finds, last_source, no_object}
use Rattle.filter.specs.declared.pointers.Member.{Member}

abbrev pub or_null : Option (List ℕ) → List ℕ
or_null None = codes "null"
or_null (Some text) = text

-- the compact text of the part of a value that a pointer leads to
abbrev pub pointed_text : List ℕ → Tree → List ℕ
pointed_text pointer v = or_null (option_map print_of (pointed_by pointer v))

-- What is written of a member of the object with the value v: its source. Of a pointer with more steps, its part.
abbrev pub part_by : Option (List ℕ) → List ℕ → List ℕ → Tree → NodeMembers → List ℕ
part_by None name t v ms = or_null (last_source name t None ms)
part_by (Some pointer) name t v ms = pointed_text pointer v

abbrev pub part_text : Member → List ℕ → Tree → NodeMembers → List ℕ
part_text m = part_by (option_map string_bytes m.deep) (string_bytes m.name)

-- the object of these members, from where the first of them begins
abbrev pub line_text : List Member → List ℕ → Tree → NodeMembers → List ℕ
line_text [] t v ms = codes "}\n"
line_text (m ∷ more) t v ms = m.key.items ++ (part_text m t v ms ++ line_text more t v ms)

-- a value that is no object is refused at its first byte
abbrev pub refused_at : List ℕ → Node → Seen
refused_at t n = refused (begin n + 1) (cause_text (no_object t n))

-- What becomes of a document: of an object its members' line.
abbrev pub outcome_of : List Member → List ℕ → Node → Seen
outcome_of members t (Node.object b e ms) = written (line_text members t (value_of t (Node.object b e ms)) ms)
outcome_of members t n = refused_at t n

-- ---- any line
-- what becomes of a member whose pointer has more steps, by what is read of the whole line
abbrev pub pointed_outcome : List ℕ → Reading Tree → Seen
pointed_outcome pointer (done v e) = written (pointed_text pointer v)
pointed_outcome pointer (fault kind index stop) = refused (index + 1) (kind_text kind)

-- what becomes of a member that was found, or wasn't
abbrev pub found_outcome : Option (List ℕ) → List ℕ → Option (List ℕ) → Seen
found_outcome None line found = written (or_null found)
found_outcome (Some pointer) line found = pointed_outcome pointer (answer false line)

-- What becomes of one member of any line. The calls of the reader decide, and of a pointer with more steps a parse of the
-- line after them.
pub data PartBecomes (m : Member) (line : List ℕ) : Seen → Type 0 where
  part_fails : (c : Cause) (x stop : ℕ) → Fails (string_bytes m.name) (at_start line) c x stop
      → PartBecomes m line (refused (x + 1) (cause_text c))
  part_found : (found : Option (List ℕ)) → Finds (string_bytes m.name) line found
      → PartBecomes m line (found_outcome (option_map string_bytes m.deep) line found)

-- after a text the line goes on, and after an error nothing is written
abbrev pub AfterPart : Seen → Seen → (List ℕ → Type 0) → Type 0
AfterPart (written text) o more = more text
AfterPart (refused column cause) o more = o ≡ refused column cause

-- What becomes of any line whose first members have this text: the others follow in their order, or the first error
-- among them is reported.
abbrev pub LineBecomes : List Member → List ℕ → List ℕ → Seen → Type 0
LineBecomes [] line text o = o ≡ written (text ++ codes "}\n")
LineBecomes (m ∷ more) line text o = (part : Seen) × PartBecomes m line part
    × AfterPart part o (λ value. LineBecomes more line ((text ++ m.key.items) ++ value) o)

-- What becomes of a line. An object is refused only if its line is no document; of any line the reader's calls decide.
pub record BecomesBy (members : List Member) (line : List ℕ) (o : Seen) : Type 0 where
  pub document : (n : Node) → IsDocument false line n → o ≡ outcome_of members line n
  pub any : LineBecomes members line [] o
