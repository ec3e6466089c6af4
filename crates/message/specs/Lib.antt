-- The message: its format, what it fixes, the laws of what is read, and what is written.
pub mod Format
pub mod Encoded
pub mod Fixes
pub mod Proper
pub mod Packet
pub mod Text
pub mod Written
pub mod Examples
