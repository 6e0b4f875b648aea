pub mod KnownBytes
pub mod Waiting
pub mod LineCuts
pub mod BufferParts
pub mod Ahead
pub mod Filling
pub mod Pieces
pub mod MemoryFiles
