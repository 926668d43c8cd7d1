pub mod Reader
pub mod Progress
