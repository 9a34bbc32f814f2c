pub mod Sequences
pub mod Spelled
pub mod Fault
pub mod ProgramFault
pub mod inside
-- what public contracts cite of crates below
pub use Rattle.insn_set.specs.Slot
pub use Rattle.insn_set.specs.Spelling
pub use Rattle.insn_set.specs.Program
