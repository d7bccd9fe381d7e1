pub mod Faults
pub mod Sides
pub mod Source
pub mod Sure
pub mod Memory
pub mod Calls
pub mod Nets
pub mod MemoryNets
