pub mod Alike
pub mod Births
pub mod Filler
pub mod Restored
pub mod Restorable
pub mod Frames
pub mod Installs
pub mod Laws
pub mod Recorded
pub mod Pieces
pub mod SaveParts
pub mod inside
-- what public contracts cite of crates below
pub use Rattle.arena.specs.Memory
pub use Rattle.bpf_helpers.specs.Parts
pub use Rattle.command_frames.specs.Frame
