pub mod Colours
pub mod Each
pub mod Read
pub mod Head
pub mod HeadNext
