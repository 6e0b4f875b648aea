pub mod LoneArguments
pub mod Meanings
