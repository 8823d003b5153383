pub mod Squares
pub mod Table
pub mod Filling
