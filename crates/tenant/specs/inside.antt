pub mod Leaves
pub mod Loading
pub mod Named
