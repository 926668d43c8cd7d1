pub mod Grammar
pub mod Faults
pub mod Promises
