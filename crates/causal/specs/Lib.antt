-- The abstract theory of steps that can be taken back, in reading order.
pub mod Lists
pub mod Reorderings
pub mod Runs
