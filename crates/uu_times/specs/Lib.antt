-- What the contracts of this crate cite.
pub mod Days
pub mod Directives
pub mod Fault
pub mod Grammar
pub mod Internal
pub mod Lines
pub mod Moment
pub mod Printed
pub mod Ranges
pub mod Rule
pub mod SysFile
pub mod System
pub mod Tables
pub mod Zone
