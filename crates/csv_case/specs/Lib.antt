pub mod CaseFiles
pub mod Entries
