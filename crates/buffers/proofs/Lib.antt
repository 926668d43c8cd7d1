pub mod Comparing
pub mod Copied
pub mod Zeros
pub mod Proved
