pub mod CarryLaws
pub mod CarryCase
pub mod JudgeLaws
pub mod FileLaws
