pub mod Extras
pub mod Indexes
pub mod Stores
pub mod Candidates
pub mod Pages
pub mod Servers
