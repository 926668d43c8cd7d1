pub mod Padding
pub mod Writing
pub mod Promises
