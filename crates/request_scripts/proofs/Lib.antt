pub mod Scripts
pub mod Counting
pub mod Rooming
