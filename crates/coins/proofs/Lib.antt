-- Laws that belong to no one function.
pub mod FileSymbols
pub mod OffWord
