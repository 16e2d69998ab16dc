-- Bases grouped by label: what the first entry of each group says.
pub mod Groups
