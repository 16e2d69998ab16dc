-- A marking as the struct that holds it: its form, its bonds, and lists with an element more or less.
pub mod Shift
pub mod Form
pub mod Held
