-- Chapter 3 and section 4.1 of document 004 as definitions, in its order; then the net of a sheet as such a net, and what is
-- claimed.
pub mod Sets
pub mod Nets
pub mod States
pub mod Forward
pub mod Backtracking
pub mod Causal
pub mod Uncoupling
pub mod Sheets
pub mod Uncouples
pub mod Claims
