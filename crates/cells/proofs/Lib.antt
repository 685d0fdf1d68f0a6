pub mod PixelPlaces
pub mod RasterWords
pub mod Regions
pub mod Replaced
pub mod Pictures
pub mod Unique
