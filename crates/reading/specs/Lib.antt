-- How reading ended.
pub mod Got
