-- Laws of the live firing at a place, and of taking it back.
pub mod Places
pub mod Backs
