pub mod Arithmetic
pub mod Branches
pub mod Calls
pub mod Effects
pub mod FactLaws
pub mod Flows
pub mod Reasons
pub mod Sound
-- what public contracts cite of crates below
pub use Rattle.tagged_model.specs.Named
