pub mod Slots
pub mod Delivery
pub mod Promises
