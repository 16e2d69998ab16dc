-- What holds of the sets and of the search; Least has the proofs of specs/Claims, Cases computes them on sheet B. Then the
-- search as the code goes.
pub mod Sets
pub mod Tops
pub mod Retreat
pub mod Least
pub mod Cases
pub mod Going
pub mod Turning
pub mod Ending
