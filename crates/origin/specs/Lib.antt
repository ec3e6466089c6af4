-- Which policy a state was opened under.
pub mod Origin
