-- The calls, and what is demanded of them.
pub mod State
pub mod Storing
pub mod Checked
pub mod Lookup
pub mod Demands
