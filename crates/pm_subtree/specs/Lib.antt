pub mod Subtree
pub mod Ways
