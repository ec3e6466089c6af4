-- What the proofs of the code share.
mod Filling
mod Putting
mod Answering
pub mod Decided
pub mod Examples
pub mod Laws
pub mod Pins
pub mod Refusals
