pub mod FillLoops
pub mod CaseParts
pub mod RowLoops
pub mod NetworkSlices
pub mod CellTests
