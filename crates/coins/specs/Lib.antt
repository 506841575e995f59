-- All coins of a stored file.
pub mod Counted
pub mod Totals
pub mod OffLaws
pub mod Answer
pub mod Tally
