-- What an answer says.
pub mod Saying
