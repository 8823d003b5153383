pub mod Answer
pub mod Judge
pub mod inner
