pub mod Fields
pub mod Readings
pub mod Unknown
pub mod Lookups
pub mod Faults
pub mod Tables
pub mod Written
pub mod Laws
