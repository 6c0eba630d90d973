pub mod Order
pub mod Readable
pub mod OfState
pub mod Tests
pub mod Walk
