pub mod Filled
pub mod Grid
pub mod Laws
pub mod Parts
