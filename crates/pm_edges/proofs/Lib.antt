pub mod Leasts
pub mod OfBlocks
pub mod Settle
