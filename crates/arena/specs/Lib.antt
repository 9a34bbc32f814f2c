pub mod Marks
pub mod Bytes
pub mod Memory
pub mod Apart
pub mod PartLaws
pub mod Ranges
pub mod Lending
pub mod inside
