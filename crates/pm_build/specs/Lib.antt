pub mod Bodies
pub mod Guards
