pub mod Disk
pub mod Room
pub mod Settled
pub mod Unopened
