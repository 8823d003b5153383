pub mod SplitRange
pub mod CheckedPlan
