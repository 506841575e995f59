-- A delivery: from the coefficients of a message to a stored file.
pub mod Message
pub mod Parts
pub mod MessageLaws
pub mod Steps
pub mod Delivered
