pub mod Build
pub mod Slices
