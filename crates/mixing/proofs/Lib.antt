pub mod Numbers
pub mod Calls
pub mod Exactly
pub mod Hiding
pub mod Unique
