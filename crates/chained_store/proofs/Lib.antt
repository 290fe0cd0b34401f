pub mod Slots
pub mod Chain
pub mod Walks
