-- Live firings in arrays: the lines that they hold, their form, their keys.
pub mod Lines
pub mod Search
pub mod Form
