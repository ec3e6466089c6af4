pub mod Examples
pub mod First
pub mod Laws
pub mod ReadLaws
pub mod Refusals
pub mod RoundTrip
