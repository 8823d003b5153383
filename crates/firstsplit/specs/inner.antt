pub mod Shipment
pub mod FirstPlan
