pub mod Faces
pub mod Layout
pub mod Course
pub mod Listing
