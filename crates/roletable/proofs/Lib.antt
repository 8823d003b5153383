pub mod RoleLaws
pub mod Allowed
pub mod RolePromise
pub mod NonInterference
pub mod HistoriesByRole
