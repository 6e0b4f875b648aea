pub mod Wrong
pub mod Terms
pub mod Between
