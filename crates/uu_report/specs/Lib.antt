pub mod Reports
pub mod Replies
pub mod Outputs
pub mod Internal
pub mod Logs
