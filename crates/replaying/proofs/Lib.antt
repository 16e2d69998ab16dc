-- Running a line forward, and the start.
pub mod Lines
pub mod Starts
