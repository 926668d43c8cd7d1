pub mod Sm3
pub mod State
pub mod Update
pub mod Cutting
pub mod Digests
pub mod Told
pub mod Promises
