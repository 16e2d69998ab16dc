-- Which sheets are accepted (01, the turned-away list, 1 to 9): the checks in order, the answer, what acceptance promises.
pub mod Checks
pub mod Promises
pub mod Samples
