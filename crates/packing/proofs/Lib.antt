pub mod Packing
pub mod ReadBack
