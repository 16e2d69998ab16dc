-- What commands do to what a record holds.
pub mod Running
