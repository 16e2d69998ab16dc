-- Laws of a ruled page.
pub mod Lines
pub mod Answers
pub mod Claims
