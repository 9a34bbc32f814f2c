pub mod Runs
pub mod Batch
pub mod Packets
pub mod inside
-- what public contracts cite of crates below
pub use Rattle.arena.specs.Memory
pub use Rattle.arena.specs.Ranges
pub use Rattle.bpf_helpers.specs.Parts
pub use Rattle.bpf_helpers.specs.Stands
pub use Rattle.insn_set.specs.Program
