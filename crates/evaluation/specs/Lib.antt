-- From coefficients to the word.
pub mod Words
pub mod Lanes
