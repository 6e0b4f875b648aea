pub mod Command
pub mod Entries
pub mod Readings
pub mod Words
