pub mod Weight
pub mod Running
pub mod Preparing
pub mod Fraction
pub mod Service
