pub mod Ran
pub mod Nexts
