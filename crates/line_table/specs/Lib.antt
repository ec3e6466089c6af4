-- A policy's lines as one array of numbers.
pub mod Table
