pub mod Layout
pub mod Stands
pub mod Kept
