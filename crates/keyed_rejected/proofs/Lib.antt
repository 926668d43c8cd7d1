pub mod Computed
pub mod Example
pub mod Proved
