-- What a reason says where a command was refused by its number.
pub mod Later
pub mod Named
pub mod Built
