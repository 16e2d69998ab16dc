-- Laws of the answer line.
pub mod Places
pub mod Pieces
pub mod Whole
