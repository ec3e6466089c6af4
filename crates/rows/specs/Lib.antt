-- Rows of cells: written over (Over, Laws, Parts, Filled), and laid out flat, one after another (Grid).
pub mod Over
pub mod Grid
