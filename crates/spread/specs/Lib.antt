-- How far one firing spreads.
pub mod Depends
pub mod Spread
