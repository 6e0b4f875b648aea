pub mod Names
pub mod SeenValues
pub mod ViewedValues
