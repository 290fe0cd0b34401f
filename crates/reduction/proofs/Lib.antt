pub mod Lists
pub mod Rereading
pub mod Reducing
pub mod Compared
pub mod Saying
pub mod Popped
pub mod Once
