pub mod TableReading
pub mod FieldSizes
pub mod FieldCounts
pub mod FieldLoop
pub mod Examples
