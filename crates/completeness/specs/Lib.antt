-- When a record is complete, what its sheet then shows, and which messages make it so.
pub mod Complete
pub mod Pins
pub mod Reports
pub mod Told
