pub mod Fits
pub mod Counts
pub mod Thin
pub mod Loan
pub mod Unique
pub mod Told
