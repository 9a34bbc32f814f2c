pub mod Limits
pub mod KeyTable
pub mod KeyLists
pub mod Words
pub mod InlineKeys
pub mod KeyRef
pub mod Index
pub mod Laws
pub mod LiveLaws
pub mod BpfMap
pub mod Sum
pub mod Live
pub mod Elements
pub mod InMaps
pub mod InPart
pub mod inside
-- what public contracts cite of crates below
pub use Rattle.tagged_model.specs.Table
