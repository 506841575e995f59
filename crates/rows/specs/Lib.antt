-- The rows of a word.
pub mod Rows
