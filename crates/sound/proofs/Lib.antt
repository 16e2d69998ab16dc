-- Laws of soundness on what a record holds.
pub mod Tests
pub mod Given
pub mod Refusing
pub mod Holds
pub mod Movers
pub mod Fits
