pub mod Asking
pub mod Calling
pub mod Rounds
pub mod Ends
pub mod Reaching
