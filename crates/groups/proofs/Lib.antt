-- Laws that the proofs of this crate's functions cite, and the crates above.
pub mod Sending
pub mod Moving
