pub mod Equalities
pub mod Movings
pub mod Namings
pub mod Pairs
