pub mod Network
pub mod Answer
pub mod Promise
pub mod inner
