-- Laws of commands on a record.
pub mod Steps
pub mod Stays
pub mod Turns
pub mod Values
pub mod Answering
pub mod Begins
pub mod Answers
pub mod Blocks
