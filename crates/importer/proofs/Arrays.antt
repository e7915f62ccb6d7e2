-- Of an array that is read item by item the texts of its values are written; of every other input something is reported.
use Rattle.std.proofs.Common.{◌≡◌, ap, refl, sym, ℕ, Bool, true, false, List}
use Rattle.jiter_steps.specs.Answer.{answer}
use Rattle.jiter_steps.specs.Node.{IsDocument, Node}
use Rattle.jiter_steps.specs.Read.{Reading, done, fault}
use Rattle.jiter_steps.specs.Tree.{Tree}
use Rattle.jiter_steps.specs.Unique.{unique_answer}
use Rattle.jiter_steps.proofs.Grammar.Documents.{IsRead, answer-is, answer-of}
use Rattle.jiter_steps.proofs.Unique.Documents.{unique-sound}
use Rattle.json_lines.specs.ArrayWritten.{TakesDocuments, WritesValues}
use Rattle.json_lines.specs.Line.{refused, written}
use Rattle.json_lines.proofs.ArrayWritten.{array-written, other-reported}
use Rattle.importer.specs.Arrays.{IsArrayImported, IsNoOtherImported, line_of}
use Rattle.importer.specs.Line.{Becomes, outcome_of, reading_of}
use Rattle.importer.specs.declared.import.Importer.{Importer}
use Rattle.importer.proofs.Decided.{decided}

-- a document becomes its text
writes-values : WritesValues false line_of (Becomes (record { unique = false }))
writes-values bytes n d = sym (ap outcome_of (answer-of false bytes n d))

-- ---- what becomes a text is a document
not-refused : (text : List ℕ) (i : ℕ) (cause : List ℕ) → written text ≡ refused i cause → ⊥
not-refused text i cause e = cc

read-plain : (bytes text : List ℕ) (r : Reading Tree) → IsRead false bytes r → written text ≡ outcome_of r
    → (n : Node) × IsDocument false bytes n
read-plain bytes text (done v e) h is = (h.0, h.1)
read-plain bytes text (fault k i stop) h is = absurd (not-refused text _ _ is)

read-unique : (bytes text : List ℕ) (r : Reading Tree) → unique_answer false bytes ≡ r → written text ≡ outcome_of r
    → (n : Node) × IsDocument false bytes n
read-unique bytes text (done v e) h is = let x = unique-sound false bytes v e h in (x.0, x.1.document)
read-unique bytes text (fault k i stop) h is = absurd (not-refused text _ _ is)

written-read : (unique : Bool) (bytes text : List ℕ) → written text ≡ outcome_of (reading_of unique bytes)
    → (n : Node) × IsDocument false bytes n
written-read true bytes text is = read-unique bytes text (unique_answer false bytes) refl is
written-read false bytes text is = read-plain bytes text (answer false bytes) (answer-is false bytes) is

takes-documents : (importer : Importer) → TakesDocuments false (Becomes importer)
takes-documents importer bytes text is = written-read importer.unique bytes text is

-- ---- the whole input
pub array-imported : IsArrayImported
array-imported name first t values counts out out' err err' bad bad' array w =
    array-written (Becomes (record { unique = false })) false line_of name first t values counts out out' err err' bad bad'
    (decided (record { unique = false })) writes-values array w

pub no-other-imported : IsNoOtherImported
no-other-imported importer name first t counts out out' err err' bad bad' w none =
    other-reported (Becomes importer) false name first t counts out out' err err' bad bad' (takes-documents importer) w none
