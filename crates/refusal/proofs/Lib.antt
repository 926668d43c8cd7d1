pub mod Telling
pub mod Proved
