-- What a session is on the record: soundness, starting, one command, a list of commands.
pub mod Lent
pub mod Records
pub mod Commands
pub mod Runs
pub mod Lists
pub mod Block
