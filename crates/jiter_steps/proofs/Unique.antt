-- A reading that refuses repeated keys, beside the same reading without that rule.
--
-- Whatever is read, the two agree, or the first has the error of a repeated key (Agreeing). With partial reading off it
-- has that error exactly where the document, if the text is one, has two keys of the same characters in one object
-- (BorrowingUnique, and Documents for whole texts).
pub mod Agreeing
pub mod Cuts
pub mod Dead
pub mod BorrowingUnique
pub mod Documents
pub mod Keys
pub mod Nodes
pub mod Tracking
pub mod Within
