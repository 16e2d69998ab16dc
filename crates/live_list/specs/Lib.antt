-- The live firings of a record as a list.
pub mod List
