pub mod Answers
pub mod Reading
pub mod Systems
pub mod Listing
pub mod Walks
pub mod Dues
pub mod Links
pub mod Waiting
