pub mod Accepted
pub mod Settled
