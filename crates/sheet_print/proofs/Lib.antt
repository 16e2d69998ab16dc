-- Laws of a sheet's text: its lines, its lists of lines, its pieces, its room.
pub mod Lines
pub mod Lists
pub mod Steps
pub mod Whole
pub mod Fits
pub mod Answers
