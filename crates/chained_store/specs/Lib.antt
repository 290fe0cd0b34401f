pub mod Chains
pub mod Chained
