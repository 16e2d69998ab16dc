-- Laws that the proofs of this crate's functions cite, and the crates above: loops that fill a list, lists changed in
-- place, ascending tables.
pub mod Fill
pub mod InPlace
pub mod Halves
