pub mod Faults
pub mod Commands
pub mod Lines
pub mod Misread
pub mod Internal
