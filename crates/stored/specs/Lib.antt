-- The stored file: its bytes, its forms and records, and what a reader answers.
pub mod Bytes
pub mod File
pub mod Reader
pub mod Passed
pub mod Accepted
pub mod ByteLaws
pub mod Packed
pub mod Whole
pub mod Check
pub mod InRange
pub mod Short
