pub mod Begun
pub mod Range
pub mod QuickPlan
