pub mod Limits
pub mod Numbers
pub mod Ranges
pub mod Refusal
pub mod Little
pub mod Overlay
