-- The policy: its format, the laws of what is read, and what is written.
pub mod Encoded
pub mod Examples
pub mod Format
pub mod Kinds
pub mod LineKinds
pub mod Lines
pub mod Proper
pub mod ReadPolicy
pub mod Text
pub mod Written
pub mod Stands
