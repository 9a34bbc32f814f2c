pub mod Lines
pub mod Fault
pub mod HexText
pub mod Printed
pub mod Assembly
pub mod inside
pub mod Law
-- what public contracts cite of crates below
pub use Rattle.insn_set.specs.Program
