-- Definitions for private contracts and proofs. No public contract names them.
pub mod Below
pub mod Flat
pub mod Laws
