pub mod LineOffsets
pub mod LineParts
pub mod FileLines
pub mod Places
pub mod NodeAndArcLines
pub mod StoredLines
pub mod Examples
