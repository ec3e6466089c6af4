-- What the program's functions answer that choose its words.
pub mod Choices
pub mod Arguments
pub mod Line
pub mod Begun
pub mod Words
