pub mod Typings
pub mod Soundness
pub mod Progressing
pub mod Samples
pub mod Counts
pub mod SamplePlans
pub mod Elements
pub mod Ports
