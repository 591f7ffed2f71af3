pub mod Words
pub mod Listed
pub mod Room
pub mod Growing
pub mod Places
pub mod Set
