pub mod Buffers
pub mod Sinks
pub mod Texts
pub mod Writing
pub mod Worked
