pub mod Circuits
pub mod Growths
pub mod Kinds
pub mod Questions
pub mod Randoms
pub mod Told
pub mod Words
