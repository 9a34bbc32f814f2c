-- Definitions for private contracts and proofs. No public contract names them.
pub mod Class
pub mod Tokens
pub mod Reading
pub mod Shown
