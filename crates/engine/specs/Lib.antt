-- What adding a transition's bonds needs, and which bonds stay where one is taken out.
pub mod Change
