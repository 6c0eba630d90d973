-- Mirrors of the code, which only clauses within the crate cite.
pub mod Asked
pub mod BatchSteps
pub mod Choice
pub mod Keys
