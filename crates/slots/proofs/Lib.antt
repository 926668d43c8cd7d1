pub mod Slots
pub mod Deliver
pub mod Records
pub mod Pieces
pub mod Listed
pub mod Proved
