-- A ruled page of live firings: its text, its refusals, what is claimed of it.
pub mod Page
pub mod Answers
pub mod Claims
