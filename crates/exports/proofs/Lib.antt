-- Lemmas of the proofs.
pub mod ListLaws
