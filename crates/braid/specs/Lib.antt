pub mod Told
pub mod Values
pub mod Meant
