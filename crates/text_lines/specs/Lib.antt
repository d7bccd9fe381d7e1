pub mod Pieces
pub mod Continued
