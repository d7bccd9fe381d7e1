pub mod Rows
pub mod Laws
pub mod Keepers
pub mod Slots
pub mod Stores
pub mod Names
pub mod Refusals
