pub mod Tables
pub mod Told
pub mod Unique
