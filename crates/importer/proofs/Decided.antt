-- What becomes of a line is decided.
use Rattle.std.proofs.Common.{◌∙◌, sym}
use Rattle.json_lines.specs.Cut.{IsDecided}
use Rattle.importer.specs.Line.{Becomes}
use Rattle.importer.specs.declared.import.Importer.{Importer}

pub decided : (importer : Importer) → IsDecided (Becomes importer)
decided importer line o o' p q = p ∙ sym q
