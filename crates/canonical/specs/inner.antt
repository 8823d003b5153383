pub mod Canonize
