pub mod ArcCells
