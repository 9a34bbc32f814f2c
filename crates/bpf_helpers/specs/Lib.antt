pub mod States
pub mod Parts
pub mod Layout
pub mod Stands
pub mod Named
pub mod Calls
pub mod Accesses
pub mod Runs
pub mod inside
-- what public contracts cite of crates below
pub use Rattle.arena.specs.Ranges
pub use Rattle.tagged_model.specs.Helpers
