-- The counts of a tally.
pub mod Counts
