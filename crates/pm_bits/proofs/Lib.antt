pub mod Masks
pub mod Ones
pub mod Moves
pub mod Joins
pub mod Signs
pub mod OnBits
pub mod OnParts
pub mod OnWords
