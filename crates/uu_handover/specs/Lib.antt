pub mod Custody
pub mod Network
pub mod Bundles
