pub mod Text
pub mod Sizes
