-- Bonds that lie in two lists of ends.
pub mod Ends
