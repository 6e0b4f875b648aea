pub mod Headers
pub mod Laws
pub mod Ports
pub mod Reading
pub mod Rows
pub mod Trace
pub mod Values
pub mod Words
