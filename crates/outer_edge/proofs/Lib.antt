pub mod Told
pub mod Interruptions
pub mod Fronts
