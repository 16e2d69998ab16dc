-- The listing of a record's live firings.
pub mod First
pub mod Listing
