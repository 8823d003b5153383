pub mod CellCopies
