pub mod Laid
pub mod Rounds
pub mod Walks
