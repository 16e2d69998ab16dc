-- Laws that the proofs of this crate's functions cite, and the crates above.
pub mod Next
pub mod Ordered
pub mod First
pub mod Alike
pub mod Turns
pub mod Relisted
pub mod Arrays
pub mod Closing
pub mod Filling
pub mod Cases
