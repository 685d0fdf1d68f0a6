pub mod Sections
pub mod Sheets
pub mod Unique
