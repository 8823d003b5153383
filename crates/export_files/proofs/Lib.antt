pub mod Printings
pub mod Writings
pub mod Readings
