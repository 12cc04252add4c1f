pub mod SetupLaws
pub mod RoundTrip
pub mod Settled
