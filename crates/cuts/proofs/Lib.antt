pub mod PartBits
pub mod CutSlack
pub mod CutSteps
pub mod CutSides
pub mod Advancing
pub mod ByTerminal
pub mod TablesKept
