-- Laws of the checks in order, which the proofs of this crate's functions cite; then what acceptance promises, and the
-- sheets of document 01 by computation.
pub mod Order
pub mod Written
pub mod Arcs
pub mod Accepted
pub mod Samples
