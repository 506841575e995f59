-- Laws that belong to no one function.
pub mod Aligned
pub mod Accumulate
