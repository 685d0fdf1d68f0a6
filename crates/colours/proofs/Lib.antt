pub mod Bounds
pub mod Together
pub mod Brighter
pub mod Sixteen
pub mod Unique
