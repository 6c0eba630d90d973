pub mod StretchLemmas
pub mod CopyLemmas
