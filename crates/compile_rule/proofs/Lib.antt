pub mod Begun
pub mod Choices
pub mod Examples
pub mod Line
pub mod Numbered
pub mod Words
