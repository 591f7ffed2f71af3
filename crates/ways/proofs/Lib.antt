pub mod NewWords
pub mod Spelling
pub mod Inserting
pub mod Adding
pub mod Relations
pub mod Trials
pub mod Tasks
pub mod Service
