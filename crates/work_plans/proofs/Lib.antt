pub mod PlanLaws
pub mod Histories
