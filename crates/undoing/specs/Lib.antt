-- The live firing at a place taken back.
pub mod Back
