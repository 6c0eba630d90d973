pub mod Envelope
pub mod Fault
pub mod Grade
pub mod Internal
pub mod Name
pub mod Path
pub mod ReturnPath
pub mod Text
