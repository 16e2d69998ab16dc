-- Labels that say which bases are connected, and the set of the bases of each label; parents, over which they are made.
pub mod Labelled
pub mod Forest
