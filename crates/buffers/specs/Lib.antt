pub mod Same
pub mod Copy
pub mod Promises
