-- Lemmas of the proofs.
pub mod Spreading
pub mod Taking
pub mod WordLaws
