-- Laws on lists that the crates above share, and the order in which a call makes its checks.
pub mod All
pub mod Alike
pub mod Answers
pub mod Calls
pub mod Decides
pub mod Filled
pub mod Lanes
pub mod Lengths
pub mod Members
pub mod Overwrite
pub mod Pick
pub mod Stretch
pub mod Tables
pub mod Upto
