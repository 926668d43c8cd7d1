pub mod Sessions
pub mod Light
pub mod Operations
pub mod Promises
