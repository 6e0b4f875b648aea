pub mod Adding
pub mod BitsBelow
pub mod Laid
