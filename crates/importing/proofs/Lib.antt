pub mod Readers
pub mod Shorter
pub mod Keeping
pub mod Items
pub mod Laying
pub mod Writers
pub mod Underway
pub mod Importing
