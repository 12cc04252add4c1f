pub mod KindLaws
pub mod Settled
