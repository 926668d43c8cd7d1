pub mod Examples
pub mod Sequences
pub mod Sequencing
pub mod Demand3
pub mod Reordering
pub mod Loops
pub mod Light
pub mod Promises
