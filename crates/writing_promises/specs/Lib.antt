pub mod Wrong
pub mod Promises
