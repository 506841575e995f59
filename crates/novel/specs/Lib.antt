-- The change of basis between products of subspace polynomials and powers of x, and the shift of a polynomial.
pub mod Sparse
pub mod Convert
pub mod Scales
pub mod Novel
pub mod Shift
pub mod Settings
