pub mod Frame
pub mod Command
pub mod Encoded
pub mod Shown
pub mod Laws
