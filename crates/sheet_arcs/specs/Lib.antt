-- The conditions 7 and 8 of document 01's turned-away list, each by itself, on one transition's bytes.
pub mod Conditions
