-- What is asked of a record (02, T-01, T-04, T-06, T-08, T-09): each call by its own definition, 1 to 10 first.
pub mod Live
pub mod Ways
pub mod Lamps
pub mod Spread
pub mod Listing
