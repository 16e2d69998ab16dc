-- The whole output of the exam program.
pub mod Output
pub mod Samples
pub mod Input
