pub mod Stored
pub mod Records
pub mod Loading
pub mod Pictured
pub mod Text
pub mod Unique
