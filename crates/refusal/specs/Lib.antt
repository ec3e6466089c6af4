-- The reasons to turn a call away, and the checks that find them.
pub mod Numbers
pub mod Table
pub mod Checks
pub mod Laws
pub mod Writes
