pub mod NoExtra
pub mod SeedRows
mod Formed
mod ToldBack
pub mod PlainEntries
mod SayableReplies
