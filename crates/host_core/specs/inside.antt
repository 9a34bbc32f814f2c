-- Definitions for private contracts and proofs. No public contract names them.
pub mod Reading
pub mod Frame
pub mod Reached
