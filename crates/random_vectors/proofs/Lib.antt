pub mod Draws
pub mod VectorRows
