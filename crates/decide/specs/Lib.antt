-- Tests and what they decide.
pub mod Decide
