pub mod Events
pub mod Handovers
pub mod Routes
pub mod Spools
pub mod Sites
pub mod Carried
pub mod AmongSites
