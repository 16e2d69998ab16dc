-- A list of commands as bytes.
pub mod Commands
pub mod Block
