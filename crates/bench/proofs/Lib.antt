pub mod Finding
pub mod Filled
