pub mod Grammar
pub mod Answers
pub mod Promises
