pub mod Bags
pub mod Texts
pub mod Laws
