-- Laws of the reason of a refusal: the number, what is named, and that it holds the condition.
pub mod Numbers
pub mod Items
pub mod Latest
pub mod Answers
pub mod Claims
pub mod Samples
