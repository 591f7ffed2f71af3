pub mod Residuals
pub mod Cube
pub mod Table
