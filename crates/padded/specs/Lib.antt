pub mod Viewing
pub mod Removing
pub mod Promises
