pub mod Steps
pub mod Repeated
pub mod Worths
pub mod Law
pub mod Worked
