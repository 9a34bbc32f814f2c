mod Walks
pub mod Parts
pub mod Apart
pub mod Within
pub mod Asked
mod Pieces
