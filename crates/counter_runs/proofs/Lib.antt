pub mod Walk
pub mod Searching
pub mod Putting
pub mod Parts
pub mod Chunks
