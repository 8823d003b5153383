pub mod BoundsPrinting
pub mod TextRoom
