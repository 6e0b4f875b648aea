pub mod Asked
pub mod Called
pub mod Cycles
pub mod Targets
