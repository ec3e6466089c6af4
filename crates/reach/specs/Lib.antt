-- How far ahead a line looks (02, request 8).
pub mod Reach
pub mod Pins
pub mod Laws
pub mod Decided
pub mod Lines
pub mod Reaches
pub mod Examples
pub mod Called
