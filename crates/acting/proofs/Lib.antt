-- What firing and taking back in place rest on.
pub mod Movers
pub mod Refuses
pub mod Fires
pub mod Undoes
