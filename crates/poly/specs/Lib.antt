-- Polynomials over a field of characteristic 2, spans, subspace polynomials, the novel basis, its transform, codewords, shifted words, and the least degree of a word.
pub mod Poly
pub mod Coefficients
pub mod Interpolate
pub mod Span
pub mod Codeword
pub mod Shift
pub mod Novel
pub mod LeastDegree
pub mod Transform
pub mod Values
pub mod Degree
pub mod NovelDegree
pub mod Joined
pub mod Blocks
pub mod Tower
pub mod Cases
