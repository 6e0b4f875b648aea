pub mod Chains
pub mod Joining
pub mod Numbered
pub mod Roots
pub mod Views
