-- Laws of the search among the lines, of the table of last movers, and of the lamp.
pub mod Tops
pub mod Marks
pub mod Lamp
pub mod Alike
