pub mod Comparing
pub mod Origin
pub mod Writing
