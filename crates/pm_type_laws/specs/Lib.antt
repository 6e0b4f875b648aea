pub mod Good
pub mod Views
pub mod Sample
