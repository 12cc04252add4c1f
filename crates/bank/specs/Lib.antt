pub mod Registers
pub mod Calls
pub mod History
