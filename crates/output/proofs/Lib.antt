-- Laws of the whole output.
pub mod Answers
pub mod Sessions
pub mod Starts
pub mod Samples
pub mod Input
