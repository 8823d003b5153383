pub mod Reports
pub mod FlowReports
