pub mod Example
pub mod Unique
pub mod ReportAnswer
