pub mod Calls
pub mod Account
pub mod Since
pub mod Opens
pub mod Refused
pub mod Live
pub mod Lived
