-- Laws that the proofs of this crate's functions cite, and the crates above.
pub mod Readiness
pub mod Tearing
pub mod Line
pub mod Keeping
