pub mod Frame
pub mod inner
