-- Words that only contracts within the crate cite.
pub mod Form
pub mod NextLine
