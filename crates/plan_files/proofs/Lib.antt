pub mod FileRefusals
pub mod Printing
pub mod EqualCases
pub mod StoredCase
