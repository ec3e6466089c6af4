pub mod Work
pub mod Standing
pub mod Concluding
