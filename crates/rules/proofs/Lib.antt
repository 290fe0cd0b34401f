pub mod Edged
pub mod Children
pub mod Replies
pub mod Related
pub mod Meanings
pub mod FirstFits
pub mod RuleLists
