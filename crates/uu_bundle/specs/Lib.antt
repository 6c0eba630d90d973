pub mod Bundles
pub mod Internal
pub mod Laws
pub mod Marks
pub mod Reading
pub mod Texts
