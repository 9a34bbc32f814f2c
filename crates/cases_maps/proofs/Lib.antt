pub mod Created
pub mod Shapes
