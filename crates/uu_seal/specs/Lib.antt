pub mod Hmac
pub mod Internal
pub mod Keys
pub mod Laws
pub mod Opening
pub mod Texts
