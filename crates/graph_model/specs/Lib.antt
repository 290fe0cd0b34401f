pub mod Refusals
pub mod Graphs
pub mod Requests
pub mod Settling
pub mod WellFormed
pub mod Operations
pub mod Stores
