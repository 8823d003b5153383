pub mod Bounds
pub mod Flow
pub mod inner
