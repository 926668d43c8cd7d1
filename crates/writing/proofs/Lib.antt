pub mod Laying
pub mod Sizes
pub mod Putting
pub mod Notes
pub mod Proved
