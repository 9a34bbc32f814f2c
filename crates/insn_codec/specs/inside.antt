-- Definitions for private contracts and proofs. No public contract names them.
pub mod OpcodeForm
pub mod Opcodes
pub mod Form
pub mod FirstFault
pub mod Code
