pub mod OneRecord
pub mod Walk
pub mod Entry
pub mod Settled
