-- The two sheets, and the rows and running indexes by which they are worked.
pub mod Sheets
pub mod Rows
pub mod Indexes
pub mod Verdicts
