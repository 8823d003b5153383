pub mod Bound
pub mod Finer
