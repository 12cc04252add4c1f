pub mod RefusalLaws
pub mod LittleLaws
pub mod Parts
pub mod OverlayLaws
pub mod Settles
