pub mod FlowFits
