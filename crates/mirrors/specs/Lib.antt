pub mod Sides
pub mod Mirror
