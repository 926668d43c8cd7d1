pub mod Spelled
pub mod OneText
pub mod Members
pub mod Entries
pub mod Again
pub mod Proved
