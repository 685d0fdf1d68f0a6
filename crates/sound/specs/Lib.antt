pub mod Amplitude
pub mod Sixths
pub mod Values
pub mod Play
pub mod Pair
pub mod Places
pub mod inner
