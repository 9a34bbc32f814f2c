pub mod Shape
pub mod ShapeLaws
pub mod Maps
pub mod Before
pub mod Verdict
pub mod Judgement
pub mod Seen
pub mod Laws
pub mod Cost
pub mod Sound
pub mod Runs
pub mod Verified
pub mod Fits
pub mod inside
-- what public contracts cite of crates below
pub use Rattle.tagged_model.specs.Step
