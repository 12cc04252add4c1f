pub mod Sample
pub mod Decimal
pub mod Lengths
pub mod TextLaws
pub mod Settled
