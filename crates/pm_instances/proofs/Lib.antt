pub mod Behind
pub mod EachKind
pub mod KindBits
pub mod Levels
pub mod Numbers
pub mod Placed
pub mod Sums
pub mod Visits
