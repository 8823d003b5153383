pub mod ResidualArc
pub mod Relaxation
pub mod Bits
pub mod LanesInUse
pub mod Keys
