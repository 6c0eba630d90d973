-- Mirrors of the code, which only clauses within the crate cite.
pub mod Cutting
pub mod NetworkReading
pub mod Parsing
pub mod Ranking
pub mod Reading
pub mod Splitting
pub mod StatementReading
