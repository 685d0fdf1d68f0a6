pub mod Ink
pub mod Per
pub mod Lines
pub mod Bytes
pub mod Quads
pub mod Depths
