pub mod Changes
pub mod Earlier
pub mod Heads
pub mod Order
pub mod Parts
pub mod Plans
pub mod Tables
pub mod TakeInPlans
