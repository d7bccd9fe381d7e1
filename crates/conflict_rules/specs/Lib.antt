pub mod Rules
pub mod Decisions
