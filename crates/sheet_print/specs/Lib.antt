-- A sheet printed as text: what the call answers and writes, the pieces of the text, the room for them.
pub mod Printing
pub mod Pieces
pub mod Room
