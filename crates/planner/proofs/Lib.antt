pub mod BendsListed
pub mod EngineAnswer
pub mod CaseStretches
pub mod LaterTests
pub mod OnePlan
pub mod Judging
