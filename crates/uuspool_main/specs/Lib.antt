pub mod Sealing
pub mod Stretch
pub mod Copying
