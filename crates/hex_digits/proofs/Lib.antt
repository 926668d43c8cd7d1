pub mod Every
pub mod Digits
pub mod Proved
