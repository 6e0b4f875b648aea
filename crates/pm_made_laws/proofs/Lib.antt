pub mod Filling
pub mod PackedShapes
pub mod NotedKinds
pub mod SeenValues
pub mod MadeScopes
pub mod TypedPlaces
pub mod KeptKinds
