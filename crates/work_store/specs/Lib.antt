pub mod State
pub mod Calls
pub mod Store
pub mod Promise
pub mod Seeing
pub mod inner
