pub mod IncumbentScan
pub mod FourSplits
