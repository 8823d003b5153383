pub mod Report
pub mod Bounds
pub mod Flow
