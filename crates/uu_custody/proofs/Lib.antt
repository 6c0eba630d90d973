mod Sessions
mod Steps
mod Proceeding
mod Coming
mod Routing
mod Spools
pub mod Sites
pub mod Noticing
mod Carried
mod Said
mod AmongSites
pub mod Examples
mod CarriedExamples
