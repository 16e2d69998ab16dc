-- Laws that the proofs of this crate's functions cite, and the crates above.
pub mod Sets
pub mod Left
pub mod Chains
pub mod Forward
pub mod Places
pub mod Cases
