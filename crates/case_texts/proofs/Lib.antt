pub mod TextReading
pub mod ListsInOrder
pub mod TextRecords
pub mod TextLengths
pub mod FileNumbers
pub mod SourceRecord
