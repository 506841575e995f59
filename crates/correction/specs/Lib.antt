-- The nearest codeword within half the distance of the code.
pub mod Differences
pub mod Near
pub mod Remainders
pub mod Division
pub mod Rows
pub mod Pairs
pub mod Quotient
pub mod Start
pub mod Candidate
pub mod Scratch
pub mod Nearest
pub mod Calls
pub mod Checks
