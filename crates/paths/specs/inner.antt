pub mod NearestNode
pub mod Search
pub mod NodeTags
