-- What is known where a transition of a sheet is fired.
pub mod Placed
