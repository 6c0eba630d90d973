mod Texts
pub mod Meanings
pub mod Rowids
pub mod TwoQuestions
pub mod ReadHeads
pub mod ReadTables
pub mod Later
pub mod Sound
pub mod SpoolRow
pub mod ReadBodies
pub mod Settling
pub mod Inspecting
pub mod Becoming
pub mod Creating
pub mod Composing
pub mod Adopting
pub mod Rows
pub mod Verdict
pub mod EarlierVerdict
pub mod Formats
pub mod Assembled
pub mod Renewing
pub mod Joined
mod ReadContents
mod Named
