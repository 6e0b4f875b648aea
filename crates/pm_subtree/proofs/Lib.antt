pub mod Apart
pub mod Elements
pub mod Paths
pub mod Samples
pub mod Searches
pub mod Ways
