mod Trails
mod Keeping
mod Replays
mod Acting
mod Quantifiers
