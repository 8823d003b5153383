pub mod CellStores
pub mod Potentials
pub mod PathWalk
pub mod PathMeasure
pub mod Delivery
pub mod LaneMarks
