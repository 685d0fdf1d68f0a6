pub mod Region
pub mod Known
