pub mod Counting
pub mod Instances
