pub mod DerivedKeys
pub mod Hmac
pub mod Keyed
pub mod Pbkdf2
pub mod Turning
