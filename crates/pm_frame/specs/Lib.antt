pub mod CallTypes
