pub mod Bits
pub mod Gathered
pub mod Masks
pub mod Packed
pub mod Places
