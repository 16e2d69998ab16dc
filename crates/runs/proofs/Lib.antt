-- Laws of a list of commands, one command more at a time.
pub mod Turns
