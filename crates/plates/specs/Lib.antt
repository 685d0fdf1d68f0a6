pub mod Plate
pub mod Read
pub mod Write
pub mod inner
