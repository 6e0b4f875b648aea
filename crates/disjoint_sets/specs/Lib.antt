pub mod Connected
pub mod Forests
pub mod Partitions
pub mod Unions
