-- The transform on lanes, the codeword test, and the degree of a short word.
pub mod Blocks
pub mod Degree
pub mod Lanes
pub mod Layers
pub mod Slices
pub mod Spans
pub mod SpanLaws
