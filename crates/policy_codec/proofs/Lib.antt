pub mod Chains
pub mod Decoding
pub mod Encoding
pub mod Lines
pub mod Writing
