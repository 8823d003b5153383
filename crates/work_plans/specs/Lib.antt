pub mod Planning
pub mod History
