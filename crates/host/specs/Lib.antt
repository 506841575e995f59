-- What the calls from C answer.
pub mod Answer
