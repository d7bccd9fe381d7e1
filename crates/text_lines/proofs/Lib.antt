pub mod Continuing
pub mod TextWord
