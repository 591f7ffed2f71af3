pub mod Carrying
pub mod Comparing
pub mod Putting
pub mod Replacing
pub mod Applying
pub mod Following
