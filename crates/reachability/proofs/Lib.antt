pub mod MaskBits
pub mod Reachability
