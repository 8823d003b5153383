pub mod Send
pub mod LaneMarks
pub mod Potentials
pub mod PathWalk
pub mod PathMeasure
