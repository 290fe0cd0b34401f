pub mod Lists
pub mod Running
