pub mod Columns
pub mod Cut
pub mod Tables
pub mod Advance
