pub mod NearestNode
pub mod NodeTags
pub mod SettledNode
pub mod SearchPasses
pub mod FullLabels
pub mod SearchCut
