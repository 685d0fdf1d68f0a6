pub mod Sheet
pub mod Input
pub mod Lists
pub mod inner
