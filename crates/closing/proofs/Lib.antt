-- Laws of the closing lines.
pub mod Lines
