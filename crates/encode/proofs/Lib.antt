-- The bytes of an accepted sheet's net are the sheet: lists of bytes, pieces, then the whole.
pub mod Bytes
pub mod Covers
pub mod Pieces
pub mod Whole
