-- Laws that the proofs of this crate's functions cite, and the crates above.
pub mod Adding
pub mod Removing
pub mod Labels
pub mod Sending
pub mod Whole
pub mod Moved
pub mod Arrays
