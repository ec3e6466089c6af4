-- That the calls meet the demands.
pub mod Small
pub mod Past
pub mod Reported
pub mod Opened
