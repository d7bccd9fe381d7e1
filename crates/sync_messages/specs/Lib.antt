pub mod Entities
pub mod Markers
pub mod Answers
pub mod Requests
pub mod Replies
pub mod Spellings
pub mod Lengths
pub mod Laws
