pub mod Escapes
pub mod HashTexts
pub mod TagPieces
