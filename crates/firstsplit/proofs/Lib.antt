pub mod Shipment
pub mod DepotShipments
pub mod FirstSplit
