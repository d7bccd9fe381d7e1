pub mod Numbers
pub mod EmptyLines
pub mod Fronts
pub mod Reading
pub mod OneAnswer
pub mod OwnHeads
pub mod ReadBack
