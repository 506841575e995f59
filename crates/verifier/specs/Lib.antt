-- What the checker answers.
pub mod Checker
pub mod OnCoin
pub mod Parts
pub mod Rejected
pub mod Verdicts
