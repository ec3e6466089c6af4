-- Metric temporal logic: formulas and their meaning.
pub mod Abbreviations
pub mod Syntax
pub mod Algebra
pub mod Reading
pub mod Before
pub mod Related
pub mod Renumbering
pub mod Replacing
pub mod Plainly
pub mod Knowing
pub mod Pins
pub mod Textbook
