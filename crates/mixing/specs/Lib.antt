pub mod Mix
pub mod Rules
pub mod inner
