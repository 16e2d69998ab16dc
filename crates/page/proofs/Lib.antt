-- Laws of a list of firings read into arrays.
pub mod Reading
