-- What the program's proofs share.
pub mod Bounded
pub mod Lines
