pub mod FrameLines
pub mod Packed
pub mod Groups
pub mod Simulating
pub mod FramesOnce
pub mod Once
pub mod Heads
