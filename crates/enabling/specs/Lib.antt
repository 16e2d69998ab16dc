-- What the callers know of a transition and a marking; bonds met in one pass.
pub mod Line
pub mod Ready
