pub mod Pixel
pub mod Cell
pub mod Picture
pub mod inner
