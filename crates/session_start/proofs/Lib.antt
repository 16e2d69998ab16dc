-- Laws of starting a session.
pub mod Starting
