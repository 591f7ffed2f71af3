pub mod Held
pub mod Entry
pub mod Follow
