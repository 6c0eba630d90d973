pub mod Blocks
pub mod Comparing
pub mod Cutting
pub mod Opened
pub mod Reading
pub mod Sealed
pub mod KeyFiles
pub mod Made
