pub mod Heights
pub mod Settled
