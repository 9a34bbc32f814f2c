pub mod Blanks
pub mod Token
pub mod Names
pub mod Form
pub mod Line
pub mod Shown
pub mod Written
pub mod Ranges
pub mod Law
pub mod inside
-- what public contracts cite of crates below
pub use Rattle.insn_set.specs.Spelling
