pub mod Laws
pub mod Numbers
pub mod Table
pub mod Writes
