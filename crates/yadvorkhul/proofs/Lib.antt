pub mod WorkReports
pub mod ExportSecrecy
pub mod ExportHistories
