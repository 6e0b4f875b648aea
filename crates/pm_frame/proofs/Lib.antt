pub mod Joinings
pub mod Matchings
pub mod Pairs
pub mod Placings
pub mod Readings
