pub mod Internal
pub mod Links
pub mod Map
pub mod Routes
pub mod Site
pub mod Way
