pub mod Printing
pub mod Writing
pub mod Reading
