pub mod Arc
pub mod Bytes
pub mod Form
pub mod Lines
pub mod inner
