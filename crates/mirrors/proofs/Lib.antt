pub mod Backward
pub mod Building
pub mod Entering
pub mod Rows
