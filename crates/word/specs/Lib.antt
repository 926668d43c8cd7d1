pub mod Rotation
pub mod BigEndian
pub mod Promises
