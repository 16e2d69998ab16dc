-- Laws of a list of commands as bytes.
pub mod Parts
