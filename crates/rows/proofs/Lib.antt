-- Laws that belong to no one function.
pub mod Gathering
pub mod LastBasis
pub mod OwnLanes
pub mod Passes
pub mod RowCodewords
pub mod Stores
