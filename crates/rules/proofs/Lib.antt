pub mod Rules
pub mod Proved
