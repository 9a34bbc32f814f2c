mod Words
mod Parsing
mod Spelling
mod Encodings
mod Vectors
