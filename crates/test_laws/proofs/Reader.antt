-- Worked rows on the reader, by computation: tables of a call's replies to readers.
mod Tables
mod Scalars
mod NumberBytes
mod Containers
mod WholeValues
mod APerson
mod CauseTexts
mod Lending
