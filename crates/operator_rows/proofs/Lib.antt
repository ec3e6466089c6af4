pub mod Folds
pub mod Steps
pub mod Shown
pub mod Facts
pub mod Spans
