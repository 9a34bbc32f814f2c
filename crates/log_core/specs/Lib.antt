pub mod Slots
-- what public contracts cite of crates below
pub use Rattle.log_facts.specs.Known
pub use Rattle.log_facts.specs.Said
