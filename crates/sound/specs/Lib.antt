-- When what a record holds is sound.
pub mod Soundness
