pub mod Hmac
pub mod Codes
pub mod Cutting
pub mod Told
pub mod Promises
