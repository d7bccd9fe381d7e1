pub mod Said
pub mod Places
mod WordLemmas
pub mod ReadCommands
