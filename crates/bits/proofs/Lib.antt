pub mod Digits
pub mod Bytes
pub mod Runs
pub mod Width
pub mod Fields
pub mod Packing
pub mod Appending
