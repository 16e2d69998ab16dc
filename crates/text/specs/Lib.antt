-- Numbers as text, and texts one after the other.
pub mod Decimal
pub mod Joined
pub mod Writes
pub mod Ascii
