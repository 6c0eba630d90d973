-- Mirrors of the code, which only clauses within the crate cite.
pub mod Claims
pub mod Labels
pub mod Nets
pub mod Numbers
pub mod Routing
pub mod Tables
