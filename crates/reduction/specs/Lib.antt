pub mod Reductions
pub mod Refusals
pub mod Rereads
pub mod Meaning
pub mod Printed
pub mod Once
