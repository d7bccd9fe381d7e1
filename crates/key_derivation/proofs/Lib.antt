pub mod Blocks
pub mod Turns
pub mod Writes
pub mod Xors
