-- That a good start fits, for the callers.
pub mod Fitting
