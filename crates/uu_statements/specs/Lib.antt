pub mod Makes
pub mod Words
pub mod Step
