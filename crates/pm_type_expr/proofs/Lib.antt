pub mod ForPlaces
pub mod LoneArguments
pub mod Logs
pub mod Meanings
pub mod PickReads
pub mod Reached
pub mod Reversed
pub mod Widths
