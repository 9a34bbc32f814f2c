pub mod Apart
pub mod Rings
pub mod Links
pub mod Ordered
pub mod Tables
pub mod Behind
pub mod Halves
