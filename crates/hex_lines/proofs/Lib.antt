pub mod Counts
pub mod Skips
