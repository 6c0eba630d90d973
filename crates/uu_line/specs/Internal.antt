-- Mirrors of the code, which only clauses within the crate cite.
pub mod Entries
pub mod Tables
