-- Lemmas of the proofs.
pub mod WordLaws
pub mod CallLaws
