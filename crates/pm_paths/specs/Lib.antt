pub mod BlockLaws
pub mod Memories
pub mod PlanBlocks
pub mod Sample
