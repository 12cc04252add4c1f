pub mod SetupParts
pub mod Settled
pub mod RoundTrip
