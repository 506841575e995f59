-- The prover: the proof that is written, and the call.
pub mod Prover
pub mod Calls
pub mod Determined
