pub mod Cycles
pub mod Faults
pub mod LeastPair
pub mod Ordering
pub mod Tables
