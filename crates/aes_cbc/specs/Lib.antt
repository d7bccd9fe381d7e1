pub mod Field
pub mod Substitution
pub mod Block
pub mod Expansion
pub mod Cipher
pub mod Padding
pub mod Chaining
pub mod Laws
