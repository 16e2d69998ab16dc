-- Laws of a room that is read into, and of how reading ended.
pub mod Rooms
