pub mod Bright
pub mod Seen
pub mod Shown
pub mod Known
