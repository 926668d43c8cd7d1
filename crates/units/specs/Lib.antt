pub mod Units
pub mod Promises
