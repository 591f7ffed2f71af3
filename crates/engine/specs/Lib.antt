pub mod Search
pub mod Gap
pub mod Turn
pub mod Run
pub mod Words
