-- What a handle holds: a parser, a document, the line feeds of chunks, or nothing.
use Rattle.jiter_incremental.specs.IncrementalParser.{Received}
use Rattle.jiter_incremental.specs.LineIndex.{Passed}
use Rattle.jiter_steps.specs.Tree.{Tree}
use Rattle.jiter_value.specs.Value.{view}
use Rattle.jiter_c.specs.declared.handles.Contents.{Contents}

-- If it holds a parser, P of it; otherwise Other.
abbrev pub MatchParser : Contents → Type 0 → (Received → Type 0) → Type 0
MatchParser Contents.Nothing Other P = Other
MatchParser (Contents.Parser p) Other P = P p
MatchParser (Contents.Document v) Other P = Other
MatchParser (Contents.Lines l) Other P = Other

-- If it holds a document, P of its tree; otherwise Other.
abbrev pub MatchDocument : Contents → Type 0 → (Tree → Type 0) → Type 0
MatchDocument Contents.Nothing Other P = Other
MatchDocument (Contents.Parser p) Other P = Other
MatchDocument (Contents.Document v) Other P = P (view v)
MatchDocument (Contents.Lines l) Other P = Other

-- If it holds line feeds, P of them; otherwise Other.
abbrev pub MatchLines : Contents → Type 0 → (Passed → Type 0) → Type 0
MatchLines Contents.Nothing Other P = Other
MatchLines (Contents.Parser p) Other P = Other
MatchLines (Contents.Document v) Other P = Other
MatchLines (Contents.Lines l) Other P = P l

-- It holds a parser, a document, line feeds of which P.
abbrev pub HoldsParser : Contents → (Received → Type 0) → Type 0
HoldsParser contents P = MatchParser contents ⊥ P

abbrev pub HoldsDocument : Contents → (Tree → Type 0) → Type 0
HoldsDocument contents P = MatchDocument contents ⊥ P

abbrev pub HoldsLines : Contents → (Passed → Type 0) → Type 0
HoldsLines contents P = MatchLines contents ⊥ P
