pub mod Lines
pub mod Sealed
pub mod Texts
