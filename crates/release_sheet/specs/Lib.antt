-- What the printing program holds, how it counts, and how long its lines are.
pub mod Arrays
pub mod Counting
pub mod Lines
