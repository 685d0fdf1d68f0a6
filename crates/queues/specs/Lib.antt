pub mod Queue
pub mod Syncs
pub mod Steps
