pub mod Table
pub mod Bits
