-- The equations of reading, and what holds of every reading whatever it builds.
--
-- A reading is a value and its end, or an error with its index and the place where it stops (specs/Read). More turns
-- than the text is long change nothing (Values), and after that no proof speaks of turns. One walk over the rows and
-- the containers shows that a place never goes back and never passes the length, and that an error is within the
-- text, an end kind at the length (Bounds, Instances). A container is read as parts, one after another (Parts); what
-- arrays and objects share is said of a shape (BothShapes). Where two sets of rules agree on the scalars and on what
-- they build, so do the readings: the fusion lemma (Fused), which can leave out errors of some kinds. Bodies and
-- StringForms say of strings what Values says of values: their parts, one at a time, and how the four forms are to
-- one another. WholeTexts has the whitespace round a value.
pub mod Bodies
pub mod BothShapes
pub mod Bounds
pub mod FirstBytes
pub mod Fused
pub mod Instances
pub mod Parts
pub mod StringForms
pub mod Values
pub mod WholeTexts
