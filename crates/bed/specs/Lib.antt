pub mod BraidTable
pub mod Shown
pub mod Meaning
