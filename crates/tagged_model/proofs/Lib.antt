pub mod MapValues
pub mod MapVerdicts
pub mod NamedTargets
pub mod RunVectors
mod HelperVectors
mod CallVectors
mod Vectors
