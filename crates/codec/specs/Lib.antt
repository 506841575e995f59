-- Encoder and decoder: words from coefficients and back, and the two calls.
pub mod Scratch
pub mod Calls
pub mod Checks
pub mod Words
pub mod RoundTrip
