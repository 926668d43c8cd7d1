pub mod Turning
pub mod Rotation
pub mod BigEndian
pub mod Proved
