-- Definitions for private contracts and proofs. No public contract names them.
pub mod Keys
pub mod SlabKeys
pub mod Spares
