-- Laws of the lamps of live firings.
pub mod Flags
