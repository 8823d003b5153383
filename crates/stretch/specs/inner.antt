pub mod ResidualPath
pub mod PathUndone
pub mod Stretch
