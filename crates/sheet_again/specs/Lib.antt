-- A sheet printed as text and read again: what comes of it.
pub mod Again
