pub mod Ready
pub mod CaseCurve
