-- A command by its bytes.
pub mod Performing
