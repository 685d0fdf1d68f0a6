pub mod Pick
pub mod Painted
pub mod Words
pub mod Put
pub mod Values
pub mod Bits
