pub mod Fault
pub mod Offsets
pub mod Settings
