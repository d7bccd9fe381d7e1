pub mod SealedTexts
pub mod Preferences
pub mod Logins
pub mod Keys
pub mod Specifics
pub mod Extras
pub mod Laws
