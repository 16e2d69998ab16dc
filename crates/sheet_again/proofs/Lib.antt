-- A sheet printed and read again: what the two calls' contracts come to.
pub mod Back
