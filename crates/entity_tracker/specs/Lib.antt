pub mod Tracked
pub mod Acked
pub mod Trackers
pub mod Offers
