-- The list of firings that a page is asked of, as the page's rows.
pub mod Rows
