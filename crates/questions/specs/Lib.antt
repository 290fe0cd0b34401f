pub mod Evaluation
pub mod Valuations
pub mod Assignments
pub mod Tabulation
pub mod Comparison
