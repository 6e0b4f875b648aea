pub mod Premises
pub mod Wholes
