pub mod Components
pub mod Makings
pub mod Nodes
pub mod Outcomes
pub mod Soundness
