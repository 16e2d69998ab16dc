-- Why a command was refused (01, the turned-away list): the reason by the number, and what is so of what it names.
pub mod Why
pub mod Turned
pub mod Claims
