-- Rules typed as text: what the reader's functions say, and what the call gives. To be believed: Compiled, Typed.
pub mod Compiled
pub mod Typed
pub mod Gathered
pub mod Steps
pub mod Laws
pub mod Descent
