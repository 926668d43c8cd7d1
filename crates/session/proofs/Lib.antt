pub mod Lists
pub mod Light
pub mod Putting
pub mod Listed
pub mod Rows
pub mod Counts
pub mod Apart
pub mod Proved
