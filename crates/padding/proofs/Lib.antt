pub mod Stores
pub mod Tails
pub mod Wholes
pub mod Proved
