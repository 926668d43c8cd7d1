pub mod Feeding
pub mod Showing
