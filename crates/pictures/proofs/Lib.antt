pub mod Stored
pub mod Judged
pub mod ReadBack
pub mod Digits
pub mod HeadRead
pub mod Heads
pub mod Unique
