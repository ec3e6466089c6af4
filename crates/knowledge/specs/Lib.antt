-- The knowledge and the traces that agree with it.
pub mod Trace
pub mod Knowledge
pub mod Pins
pub mod Laws
pub mod Store
pub mod Counts
pub mod Exact
pub mod Run
pub mod Outwards
pub mod Nearest
pub mod Runs
