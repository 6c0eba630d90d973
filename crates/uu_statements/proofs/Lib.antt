mod Texts
pub mod Meanings
pub mod Holding
pub mod Keyed
pub mod Unique
pub mod Statements
pub mod Added
pub mod Altered
pub mod Removed
pub mod Joined
pub mod Loop
pub mod Steps
