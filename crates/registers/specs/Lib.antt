pub mod Sizes
pub mod Deadlines
