pub mod Arguments
pub mod Lent
