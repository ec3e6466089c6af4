-- Kleene's three truth values.
pub mod Truth
pub mod Rank
pub mod Tests
