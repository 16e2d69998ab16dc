-- Laws that the proofs of this crate's functions cite, and those of loops over a table, for the crates above.
pub mod Parts
pub mod Loops
pub mod Chains
