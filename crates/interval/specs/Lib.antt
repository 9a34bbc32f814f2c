pub mod Ranges
pub mod Table
pub mod Refine
pub mod Laws
pub mod inside
-- what public contracts cite of crates below
pub use Rattle.words.specs.Compare
pub use Rattle.words.specs.Operate
pub use Rattle.words.specs.Widths
