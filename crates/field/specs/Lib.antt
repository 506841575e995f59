-- GF(2)[x] on numbers, GF(2^l), and the definitions that the contracts cite.
pub mod Binary
pub mod Xor
pub mod Clmul
pub mod Degree
pub mod Rem
pub mod Product
pub mod Decide
pub mod Laws
pub mod Symbols
pub mod Products
pub mod Division
pub mod Checks
pub mod Ranges
pub mod Euclid
pub mod Calls
pub mod Cases
