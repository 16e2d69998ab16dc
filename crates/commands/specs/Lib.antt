-- What a command's bytes say, what an answer says, and what a command in place does.
pub mod Answers
pub mod Doing
