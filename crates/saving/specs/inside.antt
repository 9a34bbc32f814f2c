pub mod Frames
pub mod Opened
pub mod PartCommands
pub mod Puts
