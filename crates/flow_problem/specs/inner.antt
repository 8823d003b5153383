pub mod Reduce
pub mod Sound
