-- The checked setting, the table of a space, and the values of the subspace polynomials.
pub mod Sizes
pub mod Early
pub mod Fits
pub mod Images
pub mod Ready
pub mod Setting
pub mod Sound
pub mod Table
pub mod Usable
pub mod Values
