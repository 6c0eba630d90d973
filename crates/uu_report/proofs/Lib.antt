pub mod Letters
pub mod LogLemmas
pub mod ReportLemmas
pub mod SettledLemmas
