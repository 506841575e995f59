-- Answers as numbers.
pub mod Codes
pub mod Lists
pub mod Files
pub mod Places
