pub mod Histories
pub mod Law
pub mod Worked
