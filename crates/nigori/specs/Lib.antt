pub mod Sealing
pub mod Unsealing
pub mod Verdicts
pub mod Laws
