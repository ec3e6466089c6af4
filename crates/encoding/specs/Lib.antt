-- What the two formats share.
pub mod Fields
pub mod Layout
pub mod Text
pub mod Texts
