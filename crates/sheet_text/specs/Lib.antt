-- The text of a sheet: its lines by word, and the net that the lines describe.
pub mod Lines
pub mod Reading
pub mod Counts
pub mod Claims
