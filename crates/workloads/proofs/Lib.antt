pub mod Growing
pub mod Stepping
pub mod Drafts
