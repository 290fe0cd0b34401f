pub mod Words
pub mod Lines
pub mod Parts
pub mod Parses
pub mod Split
pub mod Sections
pub mod Worked
