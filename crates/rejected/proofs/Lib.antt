pub mod Example
pub mod Digests
pub mod Loops
pub mod Light
pub mod Proved
