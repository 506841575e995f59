-- The numbers of refusals, and what a call with checks gives.
pub mod Refusal
pub mod Gives
