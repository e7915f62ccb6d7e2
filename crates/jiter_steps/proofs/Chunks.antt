-- Strings and escapes in chunks: what is known of them while they are cut, and what ends them wherever they are.
pub mod OpenEscapes
pub mod OpenStrings
pub mod OpenTexts
pub mod StringsWithin
