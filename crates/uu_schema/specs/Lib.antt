-- for any schema
pub mod Layout
pub mod Rowids
pub mod Objects
pub mod Queries
pub mod Steps
pub mod Spares
-- the tables of the spool
pub mod Schema
pub mod Earlier
pub mod Keyed
pub mod Made
pub mod Cells
pub mod Held
pub mod HeldEarlier
pub mod Encoded
pub mod Faults
pub mod Statements
