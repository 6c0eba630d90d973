mod HistoryExamples
mod SpoolLemmas
mod HistoryInvariant
mod HistoryEvents
mod HistoryRuns
mod HistoryLaws
