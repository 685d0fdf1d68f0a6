pub mod Guns
pub mod Apart
pub mod Colour
pub mod Grey
pub mod Cells
pub mod Pin
