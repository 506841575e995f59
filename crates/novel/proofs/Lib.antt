-- Lemmas of the proofs.
pub mod Cells
pub mod Evaluate
pub mod Folding
pub mod Recursion
pub mod Shifting
pub mod Scaling
pub mod Bases
pub mod Loading
pub mod NovelLaws
