pub mod Folding
pub mod Choice
pub mod Expansion
pub mod Rounds
pub mod HashValue
pub mod Page
pub mod Proved
