pub mod Reader
pub mod LineReader
pub mod FormReader
pub mod Stored
