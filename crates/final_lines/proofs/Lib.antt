-- The closing lines: how long they are, and that the writers leave them.
pub mod Closing
