pub mod Signed
mod Vectors
