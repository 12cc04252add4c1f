pub mod Outcomes
pub mod Laws
pub mod HistoryLaws
pub mod PlainLaws
pub mod Settled
