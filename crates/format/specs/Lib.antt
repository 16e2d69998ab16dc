-- The byte format of a sheet (01, the sheet), in reading order: numbers, the sheet's parts, a transition's bytes, the net.
pub mod Bytes
pub mod Parts
pub mod Arcs
pub mod Sides
pub mod NetOf
