-- What follows from the definitions, for any states, transitions and sets of bases.
pub mod Tests
pub mod Lists
pub mod Reorderings
pub mod Runs
