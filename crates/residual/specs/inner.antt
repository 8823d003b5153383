pub mod Cells
pub mod Network
pub mod Labels
pub mod Bits
pub mod LanesInUse
pub mod Keys
