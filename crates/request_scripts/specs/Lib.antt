pub mod Sizes
pub mod Steps
pub mod Counts
pub mod Scripts
pub mod Worked
