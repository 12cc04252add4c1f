pub mod StepLaws
pub mod RoundTrip
pub mod Settled
