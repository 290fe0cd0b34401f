pub mod Meanings
pub mod Settling
pub mod Requests
pub mod Operations
