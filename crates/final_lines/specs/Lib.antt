-- The closing lines of a record.
pub mod Final
