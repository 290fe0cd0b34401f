pub mod Refusals
pub mod Columns
pub mod Frames
pub mod Answers
pub mod Simulations
pub mod Once
pub mod Worked
pub mod Printed
