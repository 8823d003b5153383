pub mod UndoWalk
pub mod PathLanes
pub mod PathArcs
pub mod HeldPlan
pub mod StretchLine
pub mod AfterCuts
pub mod ShiftPath
pub mod TableArcs
