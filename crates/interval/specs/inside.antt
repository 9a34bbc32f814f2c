-- Lemmas that the definitions use. No public contract names them.
pub mod Ordered
