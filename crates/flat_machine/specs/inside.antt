-- Definitions for private contracts and proofs. No public contract names them.
pub mod Flat
pub mod Ranges
pub mod Steps
pub mod Ends
pub mod Laws
pub mod Turns
pub mod Sequences
pub mod Rows
pub mod Contexts
pub mod Packets
pub mod Given
pub mod Calls
