pub mod Marks
pub mod Swap
pub mod Area
pub mod Insert
pub mod State
pub mod Listing
pub mod Service
