pub mod TreeWalk
pub mod TreePath
