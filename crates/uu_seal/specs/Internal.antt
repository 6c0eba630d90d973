-- Words that only contracts within the crate cite.
pub mod Forms
