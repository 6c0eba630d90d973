pub mod UseLemmas
pub mod StopLemmas
pub mod EntryLemmas
pub mod TableLemmas
pub mod ProgramLemmas
pub mod LineLemmas
pub mod OriginLemmas
