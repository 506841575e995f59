-- Laws that belong to no one function.
pub mod Alike
pub mod BlockLaws
pub mod CodewordTest
pub mod DegreeLaws
pub mod Halves
pub mod Layers
pub mod Scaling
pub mod SpanLists
pub mod Written
