pub mod Rated
pub mod Work
pub mod Callers
