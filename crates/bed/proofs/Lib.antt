pub mod BraidWords
pub mod Crossing
pub mod Moving
pub mod TwoBytes
pub mod Answering
pub mod Service
