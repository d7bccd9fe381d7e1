pub mod Trails
pub mod Views
pub mod Rules
pub mod Passes
pub mod Held
pub mod Opened
