pub mod Derived
pub mod Digits
pub mod InputColumns
