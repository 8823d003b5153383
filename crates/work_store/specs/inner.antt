pub mod Layout
pub mod OpenStore
