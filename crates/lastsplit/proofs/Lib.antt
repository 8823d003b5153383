pub mod PlantShift
pub mod LastSplit
