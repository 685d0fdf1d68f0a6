pub mod Count
pub mod Extremes
pub mod Marks
pub mod Summaries
pub mod Series
pub mod inner
