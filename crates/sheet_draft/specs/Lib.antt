-- The bytes of a sheet from its text: acts, the notes of a text's lines, the bytes of acts, what is made of a text.
pub mod Acts
pub mod Notes
pub mod Bytes
pub mod Made
pub mod Claims
