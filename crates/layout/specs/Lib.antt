-- A wanted layout: when it is turned away, and which base is not where it is wanted.
pub mod Layout
