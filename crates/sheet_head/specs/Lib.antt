-- The conditions 1 to 6 of document 01's turned-away list, each by itself.
pub mod Conditions
