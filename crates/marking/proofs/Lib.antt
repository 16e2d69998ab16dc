-- Laws that the proofs of this crate's functions cite, and the crates above.
pub mod Padding
pub mod Shifts
pub mod Moves
pub mod Forms
pub mod Lent
pub mod Sets
pub mod Room
