-- The laws that tie the reading of numbers to their grammar, in one place.
pub use Rattle.jiter_scan.proofs.NumberBounds.{number_at-within, int_at-within, number_alone-within, int_alone-within}
pub use Rattle.jiter_scan.proofs.NumberSound.{number_at-sound}
pub use Rattle.jiter_scan.proofs.NumberComplete.{number_at-complete}
pub use Rattle.jiter_scan.specs.NumberWithin.{continues_number}
pub use Rattle.jiter_scan.proofs.NumberBytes.{number-ascii, number-begins, number-not_empty}
pub use Rattle.jiter_scan.proofs.NumberTests.{number_text-decides}
