-- From acts to bytes; from a text's lines to acts; the acts say the net; what is made of a text, and of a sheet's own text.
pub mod Tagged
pub mod Writing
pub mod Lines
pub mod Draft
pub mod Sizes
pub mod Says
pub mod Sheet
pub mod Makes
pub mod Back
pub mod Samples
