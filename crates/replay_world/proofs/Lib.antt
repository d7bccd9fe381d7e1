pub mod Answered
pub mod ClientEvents
pub mod CountLemmas
pub mod EntityLemmas
pub mod FateLemmas
pub mod Kept
pub mod MessageEvents
pub mod ReportLemmas
pub mod Results
pub mod Served
pub mod StepLemmas
pub mod Stored
pub mod WorldLemmas
mod LawfulSteps
