pub mod Marks
pub mod Places
pub mod Digests
pub mod Whole
pub mod Once
pub mod Proved
