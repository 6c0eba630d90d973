pub mod Lists
pub mod Places
pub mod Years
mod TextLemmas
mod CarriedLemmas
pub mod FrontLemmas
pub mod WordLemmas
mod PathLemmas
