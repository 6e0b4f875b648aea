pub mod Among
pub mod Blocks
pub mod Calls
pub mod Frames
pub mod PlansSettle
pub mod Samples
pub mod Statements
pub mod Values
