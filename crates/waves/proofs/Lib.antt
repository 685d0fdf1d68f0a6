pub mod Heads
pub mod Signed
pub mod Stored
pub mod Unique
