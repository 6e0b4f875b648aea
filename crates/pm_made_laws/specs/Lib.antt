pub mod Shapes
pub mod Noted
pub mod Scopes
pub mod Typed
