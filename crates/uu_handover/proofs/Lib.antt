mod BundleExamples
pub mod BundleLaws
pub mod SettledLaws
mod CustodyExamples
pub mod CustodyInvariant
pub mod CustodyLaws
pub mod CustodyLemmas
pub mod CustodyRuns
mod ExchangeLaws
