pub mod Ending
pub mod Words
pub mod CellsTell
pub mod OneState
pub mod NoLinks
pub mod NoWaits
pub mod Adopting
pub mod Running
pub mod Handing
pub mod Asking
pub mod Stepping
pub mod Reopening
pub mod Acknowledging
pub mod Accounting
pub mod Images
pub mod Refusing
pub mod Opening
pub mod FileRuns
pub mod Closing
mod Copies
mod ShortLogs
