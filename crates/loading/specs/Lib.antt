pub mod Weighing
pub mod Loading
pub mod Reversing
