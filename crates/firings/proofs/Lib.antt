-- Laws of live firings in arrays.
pub mod Loops
pub mod Search
pub mod Keys
pub mod Changes
pub mod Laid
pub mod Lines
pub mod Built
pub mod Closed
pub mod Made
