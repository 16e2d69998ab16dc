-- The lamps of a record's live firings.
pub mod Lamps
