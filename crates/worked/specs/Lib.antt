pub mod Worked
pub mod Replies
pub mod Values
