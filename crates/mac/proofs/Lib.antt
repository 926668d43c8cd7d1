pub mod Blocks
pub mod States
pub mod Cutting
pub mod Calls
pub mod Tables
pub mod Telling
pub mod Proved
