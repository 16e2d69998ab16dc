-- A sheet's text is read back, and the loop over a text's lines finds its first mistake.
pub mod LineBack
pub mod Small
pub mod Once
pub mod NetBack
pub mod Back
pub mod Read
pub mod FirstLine
pub mod Rest
pub mod Samples
