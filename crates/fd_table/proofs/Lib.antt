mod TakenBits
mod Vectors
