-- Each question: refused by one of 1 to 10, or told of the lines that the record holds.
pub mod LiveAsked
pub mod WayAsked
pub mod LampsAsked
pub mod SpreadAsked
pub mod ListingAsked
