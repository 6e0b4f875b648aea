pub mod DeclaredNames
pub mod TextNames
