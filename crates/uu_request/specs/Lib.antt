pub mod Carried
pub mod Marks
pub mod Neighbours
pub mod Requests
pub mod Unpacking
