pub mod Accepted
pub mod FieldTexts
pub mod Accepts
