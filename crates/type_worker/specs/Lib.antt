pub mod Opening
pub mod Openings
pub mod Entries
pub mod Batches
pub mod Tries
pub mod Sending
pub mod Sent
pub mod Settling
