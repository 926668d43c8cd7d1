pub mod Slots
pub mod Surveys
pub mod Sheets
