pub mod Codes
pub mod Laws
pub mod Leaves
pub mod Pins
