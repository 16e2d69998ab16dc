-- Which live firing moved a base last, and which stands on top of it; the table of last movers that a record keeps.
pub mod Tops
pub mod Lamp
