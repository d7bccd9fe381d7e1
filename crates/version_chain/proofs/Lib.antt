pub mod Chains
pub mod Rows
pub mod Nodes
pub mod Walks
