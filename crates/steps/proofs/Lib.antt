-- Laws of a transition of an accepted sheet on a good marking.
pub mod Arcs
pub mod Readiness
pub mod Refusals
