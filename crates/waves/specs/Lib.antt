pub mod Head
pub mod Samples
