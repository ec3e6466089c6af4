pub mod Gap
pub mod Pair
pub mod Points
pub mod Words
pub mod Admits
pub mod Own
pub mod Merging
