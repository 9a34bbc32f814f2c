-- Definitions for private contracts and proofs. No public contract names them.
pub mod Edges
pub mod Descriptors
pub mod Jumps
pub mod Longest
pub mod Arriving
pub mod Watching
pub mod Kept
pub mod Numbers
