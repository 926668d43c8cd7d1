pub mod Exact
pub mod Proved
