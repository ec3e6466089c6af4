pub mod Calls
pub mod Packets
pub mod Settling
pub mod Storing
