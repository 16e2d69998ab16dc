-- The closing lines of the exam program.
pub mod Closing
