-- Reasons of refusals (01, the turned-away list): the tests of which the first that passes is the reason.
pub mod Reasons
