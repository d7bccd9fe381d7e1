pub mod WordLists
pub mod Stepping
pub mod LawfulRuns
pub mod Causes
pub mod Works
pub mod Replaying
pub mod Commands
pub mod Starts
