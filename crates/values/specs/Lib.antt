pub mod Algebra
pub mod Bit
pub mod Homs
pub mod Digits
pub mod Blocks
pub mod Products
pub mod Rows
pub mod Columns
