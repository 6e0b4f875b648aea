pub mod IntegerLaws
pub mod Integers
pub mod Ranges
pub mod Tables
