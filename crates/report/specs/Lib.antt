-- The answer line of the exam program, and the lines of a list of answers.
pub mod Lines
pub mod Said
