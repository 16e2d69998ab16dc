-- The condition 9 of document 01's turned-away list, on one transition's bytes.
pub mod Sides
pub mod Conditions
