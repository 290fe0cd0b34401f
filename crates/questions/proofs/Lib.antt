pub mod Filled
pub mod Valuations
pub mod Homs
pub mod Tabled
pub mod Comparisons
pub mod FirstFailing
pub mod FromFn
