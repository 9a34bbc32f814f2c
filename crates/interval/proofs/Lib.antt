pub mod Digits
pub mod EdgeLemmas
pub mod Exact
pub mod Fits
pub mod HullLemmas
pub mod Members
pub mod Numbers
pub mod Ranges
pub mod ShiftLemmas
pub mod Sound
pub mod SoundBits
pub mod SoundSums
mod Vectors
