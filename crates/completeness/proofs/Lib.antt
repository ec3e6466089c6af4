pub mod Pins
pub mod Stands
pub mod Told
