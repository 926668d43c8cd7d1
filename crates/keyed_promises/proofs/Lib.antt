pub mod MacLines
pub mod Endings
pub mod Rows
pub mod Proved
