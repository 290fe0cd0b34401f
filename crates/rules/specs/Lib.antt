pub mod Edges
pub mod Pairs
pub mod Windows
pub mod Rules
pub mod RuleLists
pub mod Table
pub mod Meaning
pub mod Lawful
