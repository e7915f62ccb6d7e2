-- The cut law: of a document that is an array or an object, a partial reading of a prefix gives what `cut` leaves there.
--
-- A prefix of a text has its bytes, whitespace and steps before the place k (DocumentPrefixes). The node that the whole
-- text spells is followed while the prefix is read, by any rules: what ends before the cut is read as before, and the
-- value that the cut falls into meets the end of input (ReadPrefixes; CutParts for a container; NumberCut for a number,
-- as the whole text has the prefix's bytes before the cut: Fault.SameNumbers). A text is the prefix in which nothing is
-- cut (PrefixNodes). In a partial mode a number is read up to the cut where its bytes up to there are a number's text
-- (NumberCutLaws), a string is kept as its pieces before the cut (CutCharacters, StringCut, StringCutLaws), a container
-- keeps the parts that end by the cut and what is left of the next (CutNodes). Where the reading halts no container
-- around it takes a byte (Halting), so that the law goes up the nesting (CutLaw). A later cut goes on where an earlier
-- one stopped (LaterCuts). A prefix without its last bracket fails, since the input ends too early: an error of a byte
-- would be one of the text (Prefixes, by Fault.Dead).
pub mod CutCharacters
pub mod CutLaw
pub mod CutNodes
pub mod CutParts
pub mod PrefixNodes
pub mod DocumentPrefixes
pub mod LaterCuts
pub mod Halting
pub mod NumberCut
pub mod NumberCutLaws
pub mod Prefixes
pub mod ReadPrefixes
pub mod StringCut
pub mod StringCutLaws
