pub mod ReadOn
pub mod PlaceRuns
pub mod OverBytes
