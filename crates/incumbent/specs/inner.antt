pub mod Scan
pub mod LeastOfFour
