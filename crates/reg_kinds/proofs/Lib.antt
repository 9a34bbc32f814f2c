pub mod Absorption
pub mod ByteBits
pub mod FactLaws
pub mod JoinedByTest
pub mod KindGroups
pub mod KindOrder
pub mod SlotTests
pub mod PointerLemmas
pub mod RegisterJoins
pub mod Tables
mod Vectors
