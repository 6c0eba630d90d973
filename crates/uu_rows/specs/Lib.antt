pub mod Values
pub mod Faults
pub mod Readable
pub mod Texts
pub mod Shows
