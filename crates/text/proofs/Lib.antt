-- Laws of text in a buffer.
pub mod Writes
pub mod Digits
pub mod Joined
pub mod Loops
