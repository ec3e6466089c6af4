pub mod Putting
pub mod Gathering
pub mod Laws
pub mod Texts
