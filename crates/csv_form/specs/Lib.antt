pub mod Form
pub mod Records
pub mod inner
