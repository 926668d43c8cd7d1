pub mod Judging
pub mod Sheets
