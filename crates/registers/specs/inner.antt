pub mod Accepted
pub mod Groups
