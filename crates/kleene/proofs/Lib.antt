pub mod Rank
pub mod Tests
pub mod Truth
