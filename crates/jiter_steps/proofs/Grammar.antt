-- The grammar law: what is read is spelled, and what is spelled is read, in one way.
--
-- Scalars go first, both ways: a number by jiter_scan's laws, a string by induction on its characters (Places,
-- StringSound, StringComplete; StringMarks for whether a text is borrowed), gathered in StringLaws.
-- Then whitespace and the steps between parts, both ways (Whitespace, RowSteps). The reading by the rules that build the
-- derivation itself (NodeRules) takes only what is spelled, its nesting within the levels left: by induction on these,
-- the loop carrying "these nodes so far, whatever follows them" (Sound). The other way goes along the node, whose
-- containers are parts that are one after another (SpelledParts), and is the case of a prefix that is the whole
-- text (Cut.PrefixNodes). Documents joins both to `answer-is`, for a whole text, and `one_node`: a document's node is
-- the one that the reading builds.
pub mod Blanks
pub mod Documents
pub mod NodeRules
pub mod Places
pub mod RowSteps
pub mod ScalarLaws
pub mod Sound
pub mod SpelledParts
pub mod StringComplete
pub mod StringLaws
pub mod StringMarks
pub mod StringSound
pub mod Utf8Shape
