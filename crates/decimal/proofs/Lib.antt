pub mod Steps
pub mod Numbers
pub mod Spelling
pub mod Laying
pub mod Proved
