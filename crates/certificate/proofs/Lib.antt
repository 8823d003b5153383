pub mod WeakDuality
pub mod Certified
pub mod OnePlan
pub mod SameAnswer
pub mod Example
