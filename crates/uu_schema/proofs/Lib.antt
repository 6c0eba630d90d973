pub mod Terms
pub mod Alive
pub mod Asks
pub mod Writes
pub mod Steps
pub mod Statements
pub mod Rows
pub mod Answers
pub mod Questions
pub mod Sorted
pub mod Objects
pub mod Rowids
mod Texts
mod DroppedTable
mod DropMeanings
pub mod Meanings
pub mod Keeps
pub mod Made
pub mod SpoolRow
pub mod Begun
pub mod Resting
