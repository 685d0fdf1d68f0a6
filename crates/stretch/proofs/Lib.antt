pub mod Stretches
pub mod Told
pub mod Answers
pub mod Unique
