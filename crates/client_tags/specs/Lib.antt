pub mod Kinds
pub mod Tags
pub mod Hashes
pub mod Laws
