pub mod Files
pub mod Reached
pub mod Rising
pub mod Proved
pub mod Contract
