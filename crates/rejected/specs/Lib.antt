pub mod Example
pub mod Wrong
pub mod Promises
